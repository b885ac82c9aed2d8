-- A client, a server and a logger: the definitions compute what their record shows.
use Rattle.std.specs.Prelude.{◌≡◌, refl, ℕ, ◌+◌, true, false, List, [], ◌∷◌, Option, None, Some}
use Rattle.b1_model.specs.declared.naming.Key.{Key}
use Rattle.b1_model.specs.declared.naming.Wire.{Wire}
use Rattle.b1_model.specs.declared.commands.Command.{Command}
use Rattle.b1_model.specs.declared.commands.Command.TheVariants as cmd
use Rattle.b1_model.specs.declared.answers.Reason.{Reason}
use Rattle.b1_model.specs.declared.answers.Receipt.TheVariants as rec
use Rattle.b1_model.specs.declared.answers.Answer.{Answer}
use Rattle.b1_model.specs.declared.answers.Answer.TheVariants as ans
use Rattle.b1_model.specs.declared.records.Call.{Call}
use Rattle.b1_model.specs.declared.records.PeerCalls.{PeerCalls}
use Rattle.b1_model.specs.declared.records.Record.{Record}
use Rattle.b1_model.specs.declared.records.Stamp.{Stamp}
use Rattle.b1_model.specs.Names.{invalid, Node, made}
use Rattle.b1_model.specs.Ledger.{Line, order, table, node_of, destructions, doomed_at, is_late}
use Rattle.b1_model.specs.Legal.{is_message, is_notice, is_candidate, arrived, notice_number}
use Rattle.b1_model.specs.Script.{resolved}

abbrev call : Command → Answer → Call
call c a = record { command = c; answer = a }

abbrev wire : ℕ → ℕ → ℕ → Wire
wire f t n = record { from = f; to = t; number = n }

abbrev key : ℕ → ℕ → ℕ → Key
key s o i = record { stamp = s; origin = o; index = i }

abbrev send : List ℕ → List ℕ → List ℕ → Command
send numbers carried bytes = cmd.Send (record { go_on = false; to = numbers; with = carried; payload = bytes })

abbrev sent : ℕ → List (Option Reason) → Answer
sent stamp places = ans.Sent (record { stamp = stamp; places = places })

abbrev got : Key → ℕ → List ℕ → List ℕ → Call
got k n handles bytes = call cmd.Recv (ans.Got (rec.Message k n 0 handles bytes))

abbrev gone : Key → ℕ → Call
gone k n = call cmd.Recv (ans.Got (rec.Destroyed k n))

-- three peers; 0 holds the server as 2 and the logger as 6, the server holds the logger as 2
abbrev wires : List Wire
wires = wire 1 0 4 ∷ wire 2 0 4 ∷ wire 2 1 4 ∷ []

abbrev client : List Call
client =
    call (send (2 ∷ 6 ∷ []) (4 ∷ []) (103 ∷ [])) (sent 2 (None ∷ None ∷ []))
    ∷ got (key 4 1 0) 4 [] (111 ∷ [])
    ∷ call (cmd.SliceRelease 0) ans.Done
    ∷ gone (key 6 1 0) 2
    ∷ call cmd.Recv (ans.Got (rec.Released 6 4))
    ∷ call (cmd.Release 2) ans.Done
    ∷ call (cmd.Destroy (4 ∷ [])) (ans.Destroyed 8)
    ∷ gone (key 8 0 0) 4
    ∷ []

abbrev server : List Call
server =
    got (key 2 0 0) 4 (6 ∷ []) (103 ∷ [])
    ∷ call (send (6 ∷ []) [] (111 ∷ [])) (sent 4 (None ∷ []))
    ∷ call (cmd.Release 6) ans.Done
    ∷ call (cmd.SliceRelease 0) ans.Done
    ∷ call (cmd.Destroy (4 ∷ [])) (ans.Destroyed 6)
    ∷ gone (key 6 1 0) 4
    ∷ []

abbrev logger : List Call
logger =
    got (key 2 0 1) 4 (2 ∷ []) (103 ∷ [])
    ∷ call (cmd.Release 2) ans.Done
    ∷ call (cmd.SliceRelease 0) ans.Done
    ∷ []

abbrev peer : List Call → PeerCalls
peer calls = record { epoch = 0; clock = 0; calls = calls }

abbrev row : Record
row = record { peers = peer client ∷ peer server ∷ peer logger ∷ [] }

abbrev node : ℕ → ℕ → Node
node p i = record { owner = p; serial = i; epoch = 0 }

abbrev line : ℕ → Node → Line
line n x = record { number = n; node = Some x; held = 1 }

abbrev stamp : ℕ → ℕ → ℕ → Stamp
stamp t p k = record { stamp = t; origin = p; call = k }

in_order : order row ≡ stamp 2 0 0 ∷ stamp 4 1 1 ∷ stamp 6 1 4 ∷ stamp 8 0 6 ∷ []
in_order = refl

client_starts : table wires row 0 0 ≡ record { lines = line 2 (node 1 0) ∷ line 6 (node 2 0) ∷ []; given = 2 }
client_starts = refl

client_ends : table wires row 0 8 ≡ record { lines = line 6 (node 2 0) ∷ []; given = 2 }
client_ends = refl

server_holds_the_client : table wires row 1 1 ≡ record { lines = line 2 (node 2 0) ∷ line 6 (node 0 0) ∷ []; given = 2 }
server_holds_the_client = refl

logger_ends : table wires row 2 3 ≡ record { lines = []; given = 1 }
logger_ends = refl

answer_goes_to_the_client : node_of wires row 1 1 6 ≡ Some (node 0 0)
answer_goes_to_the_client = refl

handle_arrives_as_six : arrived (λ x. is_late wires row x (key 2 0 0)) 1 (made wires row 1 0) (Some (node 0 0) ∷ []) (table wires row 1 0) ≡ 6 ∷ []
handle_arrives_as_six = refl

answer_comes_first : (is_candidate wires row 0 1 (key 4 1 0) ≡ true) × (is_message wires row 0 1 (key 4 1 0) ≡ true) × (is_notice wires row 0 1 (key 6 1 0) ≡ true) × (is_notice wires row 0 1 (key 8 0 0) ≡ true) × (is_candidate wires row 0 1 (key 2 0 0) ≡ false)
answer_comes_first = (refl, refl, refl, refl, refl)

server_is_two : (doomed_at wires row (key 6 1 0) ≡ Some (node 1 0)) × (notice_number 0 (made wires row 0 3) (table wires row 0 3) (Some (node 1 0)) ≡ Some 2)
server_is_two = (refl, refl)

nothing_is_left : (is_candidate wires row 0 8 (key 8 0 0) ≡ false) × (is_candidate wires row 1 6 (key 6 1 0) ≡ false)
nothing_is_left = (refl, refl)

references : (resolved (send (1 ∷ []) (129 ∷ []) []) (got (key 2 0 0) 4 (6 ∷ []) [] ∷ []) ≡ send (6 ∷ []) (invalid ∷ []) []) × (resolved (cmd.SliceRelease 1) (got (key 2 0 0) 4 [] [] ∷ []) ≡ cmd.SliceRelease 0)
references = (refl, refl)

-- Three peers. 1 holds 0's node twice by one number, and gave it on to 2; each passes it on once more, at large stamps.
abbrev passed_wires : List Wire
passed_wires = wire 0 1 4 ∷ wire 0 1 4 ∷ wire 1 2 2 ∷ wire 2 1 4 ∷ wire 1 2 4 ∷ []

abbrev big : ℕ
big = 4611686018427387902

abbrev passed : Record
passed = record {
  peers =
      peer (call (cmd.Reset (record { entries = 0; bytes = 0; handles = 0 })) (ans.Reset (Some (big + 6))) ∷ [])
      ∷ peer (call (send (6 ∷ []) (2 ∷ 8 ∷ []) []) (sent big (None ∷ [])) ∷ got (key (big + 2) 2 0) 4 (2 ∷ 10 ∷ []) [] ∷ call (cmd.Destroy (4 ∷ 10 ∷ 4 ∷ 14 ∷ [])) (ans.Destroyed (big + 4)) ∷ [])
      ∷ peer (got (key big 1 0) 4 (2 ∷ 10 ∷ []) [] ∷ call (send (6 ∷ []) (2 ∷ 12 ∷ []) []) (sent (big + 2) (None ∷ [])) ∷ [])
      ∷ [];
}

held_twice : table passed_wires passed 1 0 ≡ record { lines = record { number = 2; node = Some (node 0 0); held = 2 } ∷ line 6 (node 2 0) ∷ []; given = 2 }
held_twice = refl

held_thrice : table passed_wires passed 1 2 ≡ record { lines = record { number = 2; node = Some (node 0 0); held = 3 } ∷ line 6 (node 2 0) ∷ line 10 (node 2 1) ∷ []; given = 3 }
held_thrice = refl

passed_on : table passed_wires passed 2 2 ≡ record { lines = record { number = 2; node = Some (node 0 0); held = 2 } ∷ line 6 (node 1 0) ∷ line 10 (node 1 1) ∷ []; given = 3 }
passed_on = refl

-- forged: a given number names its line's node, one that names nothing keeps its place, and one that stands twice makes two
forged_destruction : destructions passed_wires passed ≡
    record { stamp = big + 6; origin = 0; nodes = Some (node 0 0) ∷ [] }
    ∷ record { stamp = big + 4; origin = 1; nodes = Some (node 1 0) ∷ Some (node 2 1) ∷ Some (node 1 0) ∷ None ∷ [] } ∷ []
forged_destruction = refl
