-- One step of the gathering: a peer's calls up to a stamped one, and what that one names.
use Rattle.std.specs.Prelude.{◌≡◌, ℕ, suc, ◌-◌, List, [], map, take, drop, slice_get, slice_set, Option, Some, All}
use Rattle.b1_model.specs.declared.naming.Key.{Key}
use Rattle.b1_model.specs.declared.records.Call.{Call}
use Rattle.b1_model.specs.declared.records.Record.{Record}
use Rattle.b1_model.specs.declared.records.Stamp.{Stamp}
use Rattle.b1_model.specs.Names.{Node, calls_of}
use Rattle.b1_model.specs.Ledger.{message_by, slots_by}
use Rattle.b1_judge_facts.specs.declared.standing.Standing.{Standing}
use Rattle.b1_judge_facts.specs.declared.gather.Pace.{Pace}
use Rattle.b1_judge_facts.specs.declared.gather.Gathering.{Gathering}
use Rattle.b1_judge_facts.specs.Kept.{kept_at, kept_nodes, Keeps, Marks, is_gone, Adds}
use Rattle.b1_judge_facts.specs.Steps.{doomed_by}
use Rattle.b1_judge_facts.specs.Standing.{passes}

-- past the calls that stand before a place
pub record Reaches (look : Key → List (Option Node)) (calls : List Call) (until : ℕ) (x y : Pace) : Type 0 where
  pub standing_is : y.standing ≡ passes look (take (until - x.call) (drop x.call calls)) x.standing
  pub call_is : y.call ≡ until
  pub gone_is : y.gone ≡ x.gone

-- the stamped call s was taken
pub record Takes (s : Stamp) (x y : Gathering) : Type 0 where
  pub pace : Pace
  pub reached : Pace
  pub next : Pace
  pub call : Call
  pub pace_at : slice_get x.paces.items s.origin ≡ Some pace
  pub call_at : slice_get (calls_of x.rec.now s.origin) s.call ≡ Some call
  pub reaches : Reaches (slots_by (kept_at x.messages) s.origin) (calls_of x.rec.now s.origin) (suc s.call) pace reached
  pub messages_are : Keeps s.stamp s.origin (message_by s.origin reached.standing.names reached.standing.table call.command call.answer) x.messages y.messages
  pub nodes : Option (List (Option Node))
  pub nodes_are : nodes ≡ doomed_by s.origin reached.standing.names reached.standing.table (is_gone reached.gone) call.command call.answer
  pub destroyed_are : Keeps s.stamp s.origin nodes x.destroyed y.destroyed
  pub first_are : Marks s.stamp s.origin (kept_nodes nodes) x.first y.first
  pub gone_are : Adds (kept_nodes nodes) reached.gone next.gone
  pub same_standing : next.standing ≡ reached.standing
  pub same_call : next.call ≡ reached.call
  pub paces_are : y.paces.items ≡ slice_set x.paces.items s.origin next
  pub rec_is : y.rec.now ≡ x.rec.now

-- nothing lies behind, and nothing is gone
pub record IsFresh (x : Pace) : Type 0 where
  pub call_is : x.call ≡ 0
  pub gone_is : x.gone.keys ≡ []

-- each peer stands so
pub record ArePaces (standings : List Standing) (paces : List Pace) : Type 0 where
  pub standings_are : map (λ x. x.standing) paces ≡ standings
  pub fresh : All IsFresh paces

-- nothing is gathered
pub record IsStart (r : Record) (standings : List Standing) (g : Gathering) : Type 0 where
  pub rec_is : g.rec.now ≡ r
  pub paces_are : ArePaces standings g.paces.items
  pub messages_are : g.messages.entries ≡ []
  pub destroyed_are : g.destroyed.entries ≡ []
  pub first_are : g.first.entries ≡ []
