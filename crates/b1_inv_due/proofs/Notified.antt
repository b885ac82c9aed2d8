-- Whether a node's release notice is queued, and whether the node is live, by the part of its owner.
use Rattle.std.proofs.Common.{◌≡◌, ◌≢◌, refl, sym, ap, subst, ◌∙◌, ℕ, Bool, true, false, List, Option, Some, None}
use Rattle.std.specs.Prelude.{slice_get}
use Rattle.std.specs.List.{list_any}
use Rattle.std.proofs.lemmas.Bool.{eq-eqb, eqb-true}
use Rattle.b1_model.specs.declared.commands.Command.{Command}
use Rattle.b1_model.specs.declared.naming.Key.{Key}
use Rattle.b1_model.specs.declared.naming.NodeRef.{NodeRef}
use Rattle.b1_model.specs.declared.naming.Opening.{Opening}
use Rattle.b1_model.specs.declared.entries.Entry.{Entry}
use Rattle.b1_model.specs.declared.entries.Entry.TheVariants.{Message, OwnNotice, ForeignNotice, ReleaseNotice}
use Rattle.b1_model.specs.MachineParts.{PeerPart, State, is_live, is_release_notice, node_at}
use Rattle.b1_model.specs.MachineCounts.{has_release_notice, is_notified, is_live_in}
use Rattle.b1_model.specs.MachineStep.{Step}
use Rattle.b1_step.specs.Rights.{Has}
use Rattle.b1_step.proofs.Locality.{other_peer}
use Rattle.b1_inv.specs.Words.{IsPeer}
use Rattle.b1_inv_refs.proofs.SameWires.{any_has, any_none}

-- ---- one part

-- an entry that is a node's release notice
release_is : (serial : ℕ) (f : Key × Entry) → is_release_notice serial f ≡ true → f ≡ (f.0, ReleaseNotice serial)
release_is serial (k, Message origin user index mine offset len nodes slots handles payload) is = absurd (cc is)
release_is serial (k, OwnNotice mine index) is = absurd (cc is)
release_is serial (k, ForeignNotice node index) is = absurd (cc is)
release_is serial (k, ReleaseNotice mine) is = ap (λ n. (k, ReleaseNotice n)) (eqb-true mine serial is)

-- an element that passes a test is found by it
pub has_any : {X : Type 0} (test : X → Bool) (xs : List X) (x : X) → Has xs x → test x ≡ true → list_any test xs ≡ true
has_any test xs x h passes = by (list_any test xs) refl
  where
    by : (b : Bool) → list_any test xs ≡ b → b ≡ true
    by true is = refl
    by false is = absurd (cc (sym (any_none test xs x is h) ∙ passes))

-- a queued release notice with its key
pub notice_there : (serial : ℕ) (x : PeerPart) → has_release_notice serial x ≡ true → (k : Key) × Has x.queue (k, ReleaseNotice serial)
notice_there serial x is = let found = any_has (is_release_notice serial) x.queue is in (found.0.0, subst (Has x.queue) (release_is serial found.0 found.2) found.1)

-- and the other way round
pub there_notified : (serial : ℕ) (x : PeerPart) (k : Key) → Has x.queue (k, ReleaseNotice serial) → has_release_notice serial x ≡ true
there_notified serial x k h = has_any (is_release_notice serial) x.queue (k, ReleaseNotice serial) h (eq-eqb serial serial refl)

-- ---- states

module _ (s : State) (node : NodeRef) where
  -- the two tests, by the part of the owner
  pub notified_by : (x : PeerPart) → IsPeer s node.owner x → is_notified s node ≡ has_release_notice node.serial x
  notified_by x is = ap (λ r. elim r [ None ↦ false | Some y ↦ has_release_notice node.serial y ]) is

  pub live_by : (x : PeerPart) → IsPeer s node.owner x → is_live_in s node ≡ is_live (node_at x node.serial).state
  live_by x is = ap (λ r. elim r [ None ↦ false | Some y ↦ is_live (node_at y node.serial).state ]) is

  -- the part of the owner of a live node, and of one whose notice is queued
  pub live_owner : is_live_in s node ≡ true → (x : PeerPart) × IsPeer s node.owner x
  live_owner live = by (slice_get s.peers node.owner) refl live
    where
      by : (r : Option PeerPart) → slice_get s.peers node.owner ≡ r → elim r [ None ↦ false | Some y ↦ is_live (node_at y node.serial).state ] ≡ true → (x : PeerPart) × IsPeer s node.owner x
      by None is none = absurd (cc none)
      by (Some x) is there = (x, is)

  pub notified_owner : is_notified s node ≡ true → (x : PeerPart) × IsPeer s node.owner x
  notified_owner notified = by (slice_get s.peers node.owner) refl notified
    where
      by : (r : Option PeerPart) → slice_get s.peers node.owner ≡ r → elim r [ None ↦ false | Some y ↦ has_release_notice node.serial y ] ≡ true → (x : PeerPart) × IsPeer s node.owner x
      by None is none = absurd (cc none)
      by (Some x) is there = (x, is)

-- an event elsewhere changes nothing of it
pub notified_elsewhere : {o : Opening} {s : State} {p : ℕ} {command : Option Command} {t : State} (step : Step o s p command t) (node : NodeRef) → node.owner ≢ step.at → is_notified t node ≡ is_notified s node
notified_elsewhere step node apart = ap (λ r. elim r [ None ↦ false | Some y ↦ has_release_notice node.serial y ]) (other_peer step node.owner apart)
