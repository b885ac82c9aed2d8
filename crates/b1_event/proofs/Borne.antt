-- In a reached state whose lists of calls are short, the next event of every driver is borne.
use Rattle.std.proofs.Common.{◌≡◌, ◌⊎◌, refl, sym, ap, ◌∙◌, inl, inr, subst, ℕ, Option, Some, None, slice_get}
use Rattle.std.proofs.lemmas.Option.{slice_get_within}
use native.Mathlib.Omega.{arith}
use Rattle.b1_model.specs.declared.naming.Opening.{Opening}
use Rattle.b1_model.specs.declared.commands.Command.{Command}
use Rattle.b1_model.specs.declared.events.Action.{Action}
use Rattle.b1_model.specs.declared.events.Action.TheVariants as act
use Rattle.b1_model.specs.MachineParts.{PeerPart, DriverPart, State}
use Rattle.b1_model.specs.MachineDriver.{next_action, peer_of}
use Rattle.b1_model.specs.MachineStep.{Reached, begun}
use Rattle.b1_driver.specs.Parts.{Driver}
use Rattle.b1_event.specs.Events.{HasStock}
use Rattle.b1_inv.specs.Sound.{IsSound}
use Rattle.b1_event.specs.Borne.{AreShort, HasRoomForNodes, IsBorne}
use Rattle.b1_event.proofs.Opened.{begins, opened}
use Rattle.b1_event.proofs.Weights.{reached_holds}
use Rattle.b1_event.proofs.Next.{IsNext, next}

module _ (o : Opening) (s : State) (sound : IsSound o s) (reached : Reached o s) (short : AreShort s) (p : ℕ) (d e : DriverPart) (command : Option Command) (is_driver : slice_get s.drivers p ≡ Some d) (is_begun : begun d command ≡ Some e) where
  is_next : IsNext o s sound short (reached_holds o s reached) p d is_driver e
  is_next = next o s sound short (reached_holds o s reached) p d is_driver command e is_begun

  number : e.me ≡ p
  number = by (opened d e command is_begun).old_or_new
    where
      by : (e ≡ d) ⊎ ((c : Command) × (d.doing ≡ None) × (e ≡ begins d c)) → e.me ≡ p
      by (inl same) = ap (λ f. f.me) same ∙ sound.numbered.drivers p d is_driver
      by (inr new) = ap (λ f. f.me) new.2 ∙ sound.numbered.drivers p d is_driver

  at_is : peer_of e.me (next_action e) ≡ peer_of p (next_action e)
  at_is = ap (λ n. peer_of n (next_action e)) number

  -- a destruction begins at the own peer, whose driver has room for its nodes
  stock : (x : PeerPart) (f : Driver) → slice_get s.peers (peer_of p (next_action e)) ≡ Some x → f.part ≡ e → HasRoomForNodes x f → HasStock (next_action e) x f
  stock x f is same room = by (next_action e) refl
    where
      by : (a : Action) → next_action e ≡ a → HasStock a x f
      by act.BeginDestroy next =
          let own : slice_get s.peers p ≡ Some x = subst (λ n. slice_get s.peers n ≡ Some x) (ap (peer_of p) next) is in
          room ((sound.numbered.peers p x own).me ∙ sym number ∙ ap (λ g. g.me) (sym same))
      by a next = tt

  pub borne : IsBorne o s p e
  borne =
      let within = slice_get_within s.drivers p d is_driver in
      let as_many = sound.numbered.as_many_drivers in
      let aims = is_next.aims in
      record {
        number = number;
        known = omega (arith, within, as_many, number);
        aims = omega (arith, aims, at_is);
        allowed = λ x is ok. is_next.allowed x ok (subst (λ n. slice_get s.peers n ≡ Some x) (sym at_is) is);
        stock = stock;
      }
