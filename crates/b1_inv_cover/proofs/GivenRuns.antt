-- Over every list of steps a given number names one node.
use Rattle.std.proofs.Common.{◌≡◌, refl, sym, ap, subst, ◌∙◌, inl, inr, ℕ, List, [], ◌∷◌, Option, Some}
use Rattle.std.proofs.lemmas.Bool.{cases_eq}
use Rattle.std.proofs.lemmas.Option.{same_Some}
use native.Mathlib.Omega.{arith}
use Rattle.b1_model.specs.declared.commands.Command.{Command}
use Rattle.b1_model.specs.declared.naming.Opening.{Opening}
use Rattle.b1_model.specs.MachineParts.{PeerPart, HandleRecord, State}
use Rattle.b1_model.specs.MachineTables.{next_number}
use Rattle.b1_model.specs.MachineStep.{Step, Label, Leads}
use Rattle.b1_step.specs.Rights.{Has}
use Rattle.b1_inv.specs.Words.{IsPeer}
use Rattle.b1_inv.specs.Sound.{IsSound}
use Rattle.b1_inv_tools.proofs.Leaves.{new_peer, same_peer}
use Rattle.b1_inv_cover.specs.Given.{GivenRises, NumbersStay}
use Rattle.b1_inv_cover.proofs.Given.{between_more, given_rises}

-- the same state
rises_refl : (s : State) → GivenRises s s
rises_refl s = record {
  rises = λ q x y before after. let same = ap (λ z. z.given) (alike q x y before after) in omega (arith, same);
  fresh = λ q number x y h before after there is. inl (record { old = h; was = subst (λ z. Has z.handles h) (sym (alike q x y before after)) there; node = refl; is_number = is });
}
  where
    alike : (q : ℕ) (x y : PeerPart) → IsPeer s q x → IsPeer s q y → x ≡ y
    alike q x y before after = same_Some x y (sym before ∙ after)

-- each peer is there after a step
peer_after : {o : Opening} {s : State} {p : ℕ} {c : Option Command} {t : State} → Step o s p c t → (q : ℕ) (x : PeerPart) → IsPeer s q x → (y : PeerPart) × IsPeer t q y
peer_after {t = t} step q x is = elim (cases_eq q step.at) [
  | inl here ↦ (step.new_peer, subst (λ r. IsPeer t r step.new_peer) (sym here) (new_peer step))
  | inr apart ↦ (x, same_peer step q x apart is)
]

-- a step, and then others
rises_more : {o : Opening} {s : State} {p : ℕ} {c : Option Command} {m : State} → Step o s p c m → (t : State) → GivenRises m t → GivenRises s t
rises_more step t later = record {
  rises = λ q x y before after.
      let z = peer_after step q x before in
      let one = (given_rises step).rises q x z.0 before z.1 in
      let two = later.rises q z.0 y z.1 after in
      omega (arith, one, two);
  fresh = λ q number x y h before after there is.
      let z = peer_after step q x before in
      let one = (given_rises step).rises q x z.0 before z.1 in
      let two = later.rises q z.0 y z.1 after in
      elim (later.fresh q number z.0 y h z.1 after there is) [
        | inr given ↦ inr (between_more z.0.given y.given x.given y.given number one (omega arith) given)
        | inl had ↦ elim ((given_rises step).fresh q number x z.0 had.old before z.1 had.was had.is_number) [
          | inr given ↦ inr (between_more x.given z.0.given x.given y.given number (omega arith) two given)
          | inl was ↦ inl (record { old = was.old; was = was.was; node = was.node ∙ had.node; is_number = was.is_number })
        ]
      ];
}

pub leads_rises : (o : Opening) (s : State) (steps : List Label) (t : State) → Leads o s steps t → GivenRises s t
leads_rises o s [] t same = subst (GivenRises s) same (rises_refl s)
leads_rises o s (l ∷ rest) t (m, step, leads) = rises_more step t (leads_rises o m rest t leads)

pub numbers_stay : (o : Opening) (s : State) (steps : List Label) (t : State) → IsSound o s → Leads o s steps t → NumbersStay s t
numbers_stay o s steps t sound leads = record {
  node = λ q number x y g h before after had there was is. by q number x y g h before after had there was is;
}
  where
    by : (q number : ℕ) (x y : PeerPart) (g h : HandleRecord) → IsPeer s q x → IsPeer t q y → Has x.handles g → Has y.handles h → g.number ≡ Some number → h.number ≡ Some number → g.node ≡ h.node
    by q number x y g h before after had there was is =
        let numbered = sound.numbers.numbered q x before in
        elim ((leads_rises o s steps t leads).fresh q number x y h before after there is) [
          | inl old ↦ numbered.apart g old.old number had old.was was old.is_number ∙ old.node
          | inr given ↦
              let k = (numbered.held g number had was).1 in
              let low = given.low in
              let same : next_number k.0 ≡ next_number given.place = sym k.2 ∙ given.is_number in
              let few = k.1 in
              absurd (omega (arith, low, same, few))
        ]
