-- The script of a number: in each phase each peer sends one message to the peers that match it, and takes what they send.
use Rattle.std.specs.Prelude.{ℕ, ◌+◌, ◌-◌, ◌*◌, ◌%◌, ◌==◌, Bool, false, not, ◌&&◌, nat_lt, if◌then◌else◌, List, [], ◌∷◌, map, filter, length, sum_by, replicate, slice_get, None, Some, true, ◌≡◌, ◌/◌}
use Rattle.std.specs.List.{flat_map, range_with_len}
use Rattle.b1_model.specs.declared.commands.Command.{Command}
use Rattle.b1_model.specs.declared.commands.Command.TheVariants.{Send, Await, SliceRelease}
use Rattle.b1_model.specs.declared.naming.Opening.{Opening}
use Rattle.b1_model.specs.declared.naming.PeerSpec.{PeerSpec}
use Rattle.b1_model.specs.declared.naming.Wire.{Wire}
use Rattle.b1_model.specs.Names.{is_given}
use Rattle.b1_model.specs.Opening.{held_by}
use Rattle.b1_script.specs.declared.script.Script.{Script}
use Rattle.b1_gen.specs.declared.numbers.TheConstants.{PHASES, POOL, MOST_ENTRIES, MOST_BYTES, MOST_HANDLES, NODE}

-- the numbers below n, rising
abbrev pub below : ℕ → List ℕ
below n = range_with_len 0 n

-- how many peers there are
abbrev pub peer_count : ℕ → ℕ
peer_count number = 4 + number % 5

-- ---- the opening

-- a peer, whose user has its number
abbrev pub peer_spec : ℕ → PeerSpec
peer_spec p = record { user = p; pool = POOL; limits = record { entries = MOST_ENTRIES; bytes = MOST_BYTES; handles = MOST_HANDLES } }

-- the wire that gives q a handle of the node of p
abbrev pub node_wire : ℕ → ℕ → Wire
node_wire p q = record { from = p; to = q; number = NODE }

-- the other peers, rising
abbrev pub others : ℕ → ℕ → List ℕ
others n p = filter (λ q. not (q == p)) (below n)

-- each other peer gets a handle of the node of p
abbrev pub wires_of : ℕ → ℕ → List Wire
wires_of n p = map (node_wire p) (others n p)

-- every clock begins at 0, and each peer holds the nodes of all others
abbrev pub opening_of : ℕ → Opening
opening_of n = record { first_clock = 0; peers = map peer_spec (below n); wires = flat_map (wires_of n) (below n) }

-- at p a given number names the node of another peer: the wires to a peer give it 2, 6, 10 and so on, in their order
pub record NamesNodeOf (o : Opening) (p number owner : ℕ) : Type 0 where
  pub given : is_given number ≡ true
  pub wire : slice_get (held_by o.wires p) (number / 4) ≡ Some (node_wire owner p)

-- ---- the commands

-- two peers match in two of three phases
abbrev pub matches : ℕ → ℕ → ℕ → ℕ → Bool
matches number k p q = not (q == p) && not ((number + p + k + q) % 3 == 0)

-- the peers that p sends to in phase k, and that send to it, rising
abbrev pub partners : ℕ → ℕ → ℕ → List ℕ
partners number k p = filter (matches number k p) (below (peer_count number))

-- the handle of the node of q at p: given numbers go 2, 6, 10 and so on
abbrev pub handle_at : ℕ → ℕ → ℕ
handle_at p q = if nat_lt q p then 4 * q + 2 else 4 * (q - 1) + 2

-- how many bytes are sent in phase k
abbrev pub payload_len : ℕ → ℕ
payload_len k = 8 * (1 + k % 8)

-- what p sends in phase k
abbrev pub payload_of : ℕ → ℕ → List ℕ
payload_of p k = replicate (payload_len k) ((p + k) % 256)

-- p sends one message to all that match it
abbrev pub sending : ℕ → ℕ → ℕ → Command
sending number p k = Send (record { go_on = false; to = map (handle_at p) (partners number k p); with = []; payload = payload_of p k })

-- a receipt is awaited, and its slice given back: r counts the receipts before it
abbrev pub taking : ℕ → List Command
taking r = Await ∷ SliceRelease (2 * r + 1) ∷ []

-- how many receipts p takes in the phases before phase k
abbrev pub taken_before : ℕ → ℕ → ℕ → ℕ
taken_before number p k = sum_by (λ j. length (partners number j p)) (below k)

-- what p does in phase k
abbrev pub phase_commands : ℕ → ℕ → ℕ → List Command
phase_commands number p k = sending number p k ∷ flat_map taking (range_with_len (taken_before number p k) (length (partners number k p)))

-- what p does in the first n phases
unfoldable pub commands_before : ℕ → ℕ → ℕ → List Command
commands_before number p n = flat_map (phase_commands number p) (below n)

-- what p does in all phases
unfoldable pub commands_of : ℕ → ℕ → List Command
commands_of number p = commands_before number p PHASES

-- ---- the script

-- the script of a number, without turns and without cookies
abbrev pub generated : ℕ → Script
generated number = record {
  opening = opening_of (peer_count number);
  commands = map (commands_of number) (below (peer_count number));
  turns = [];
  cookies = None;
}
