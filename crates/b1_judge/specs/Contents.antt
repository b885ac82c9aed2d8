-- What a message receipt must have.
use Rattle.std.specs.Prelude.{◌≡◌, ℕ, List, Some}
use Rattle.b1_model.specs.declared.naming.Key.{Key}
use Rattle.b1_model.specs.Ledger.{Message, message}
use Rattle.b1_model.specs.Legal.{HasContents}
use Rattle.b1_judge_facts.specs.Facts.{Place}

-- a receipt with this key, number, handles and bytes has what was sent
abbrev pub HasSent : Place → Key → ℕ → List ℕ → List ℕ → Type 0
HasSent at key number handles payload = (m : Message) × (message at.wires at.rec key.stamp key.origin ≡ Some m) × HasContents at.wires at.rec at.peer at.call key number handles payload m
