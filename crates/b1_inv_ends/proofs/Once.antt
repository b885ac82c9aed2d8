-- Each destroy notice comes once and leaves only behind its node's destruction; and no queue has two of one node.
use Rattle.std.proofs.Common.{◌≡◌, sym, ap, subst, ◌∙◌, ℕ, ◌==◌, ◌&&◌, true, Option}
use Rattle.std.proofs.lemmas.Bool.{and_parts, eqb-true}
use Rattle.b1_model.specs.declared.naming.Key.{Key}
use Rattle.b1_model.specs.declared.naming.NodeRef.{NodeRef}
use Rattle.b1_model.specs.declared.naming.Opening.{Opening}
use Rattle.b1_model.specs.declared.commands.Command.{Command}
use Rattle.b1_model.specs.declared.entries.Entry.{Entry}
use Rattle.b1_model.specs.declared.entries.Entry.TheVariants.{Message, OwnNotice, ForeignNotice, ReleaseNotice}
use Rattle.b1_model.specs.MachineParts.{PeerPart, State}
use Rattle.b1_model.specs.MachineStep.{Step}
use Rattle.b1_step.specs.Rights.{Has}
use Rattle.b1_step.proofs.Orders.{one_entry}
use Rattle.b1_inv.specs.Words.{IsPeer}
use Rattle.b1_inv.specs.Sound.{IsSound}
use Rattle.b1_inv_record.specs.Destructions.{own_ref}
use Rattle.b1_inv_record.specs.Right.{IsRight}
use Rattle.b1_inv_names.proofs.Staying.{destroyed_stay}
use Rattle.b1_inv_ends.specs.Notices.{ends_node, OneNotice, NoticesOnce}
use Rattle.b1_inv_ends.proofs.Coming.{comes_undestroyed}
use Rattle.b1_inv_ends.proofs.Leaving.{leaves_ended}

pub one_notice : {o : Opening} {s : State} {p : ℕ} {c : Option Command} {t : State} → IsSound o s → IsRight o s → (step : Step o s p c t) → OneNotice step
one_notice sound right step = record {
  comes = λ q r serial x y w is now owner made. comes_undestroyed sound step q r serial x y w is now owner;
  leaves = λ q r serial x y w is now owner made. leaves_ended sound right step q r serial x y w is now owner;
  stays = destroyed_stay step;
}

-- ---- one of a node in a queue

-- a reference that passes the test is the node's
the_node : (r serial : ℕ) (node : NodeRef) → ((node.owner == r) && (node.serial == serial)) ≡ true → node ≡ own_ref r serial
the_node r serial node is =
    let both = and_parts (node.owner == r) (node.serial == serial) is in
    ap (λ n. record { owner = n; serial = node.serial }) (eqb-true node.owner r both.0) ∙ ap (own_ref r) (eqb-true node.serial serial both.1)

module _ {o : Opening} {s : State} (sound : IsSound o s) (right : IsRight o s) (q r serial : ℕ) (x : PeerPart) (is : IsPeer s q x) where
  -- a peer's queue has own notices of its own nodes alone, and foreign ones of others'
  mixed : (k l : Key) (mine i j : ℕ) (node : NodeRef) → Has x.queue (l, ForeignNotice node j) → ends_node q r serial (k, OwnNotice mine i) ≡ true → ends_node q r serial (l, ForeignNotice node j) ≡ true → ⊥
  mixed k l mine i j node there own foreign =
      let both = and_parts (r == q) (mine == serial) own in
      let owner : node.owner ≡ r = ap (λ n. n.owner) (the_node r serial node foreign) in
      (sound.notices.queued q x (l, ForeignNotice node j) is there).2 (owner ∙ eqb-true r q both.0)

  same_key : (f g : Key × Entry) → Has x.queue f → Has x.queue g → ends_node q r serial f ≡ true → ends_node q r serial g ≡ true → f.0 ≡ g.0
  same_key (k, OwnNotice mine i) (l, OwnNotice other j) one two first second =
      let a = and_parts (r == q) (mine == serial) first in
      let b = and_parts (r == q) (other == serial) second in
      right.destructions.own.once q i j mine x k l is one (subst (λ n. Has x.queue (l, OwnNotice n j)) (eqb-true other serial b.1 ∙ sym (eqb-true mine serial a.1)) two)
  same_key (k, ForeignNotice node i) (l, ForeignNotice other j) one two first second =
      right.parts.marks.once q i j x k l node is one (subst (λ n. Has x.queue (l, ForeignNotice n j)) (the_node r serial other second ∙ sym (the_node r serial node first)) two)
  same_key (k, OwnNotice mine i) (l, ForeignNotice node j) one two first second = absurd (mixed k l mine i j node two first second)
  same_key (k, ForeignNotice node i) (l, OwnNotice mine j) one two first second = absurd (mixed l k mine j i node one second first)
  same_key (k, Message origin user place to at len nodes slots handles payload) g one two first second = absurd (cc first)
  same_key (k, ReleaseNotice mine) g one two first second = absurd (cc first)
  same_key f (l, Message origin user place to at len nodes slots handles payload) one two first second = absurd (cc second)
  same_key f (l, ReleaseNotice mine) one two first second = absurd (cc second)

pub notices_once : {o : Opening} {s : State} → IsSound o s → IsRight o s → NoticesOnce s
notices_once sound right q r serial x f g is one two first second = one_entry x.queue f g (right.parts.keys.ascending q x is) one two (same_key sound right q r serial x is f g one two first second)
