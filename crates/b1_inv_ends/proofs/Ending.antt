-- Destroy notices of a node among the entries of a queue.
use Rattle.std.proofs.Common.{◌≡◌, refl, sym, ap, inl, inr, ◌∙◌, ℕ, Bool, true, false, ◌||◌, List, [], ◌∷◌}
use Rattle.std.specs.List.{list_any}
use Rattle.b1_model.specs.declared.naming.Key.{Key}
use Rattle.b1_model.specs.declared.entries.Entry.{Entry}
use Rattle.b1_model.specs.declared.entries.Entry.TheVariants.{Message, OwnNotice, ForeignNotice, ReleaseNotice}
use Rattle.b1_model.specs.MachineParts.{is_data}
use Rattle.b1_model.specs.MachineOrder.{is_any_release_notice}
use Rattle.b1_model.specs.MachineSend.{with_stamp}
use Rattle.b1_step.specs.Rights.{Has}
use Rattle.b1_inv_ends.specs.Notices.{ends_node}

-- ---- some element passes

pub any_there : {X : Type 0} (test : X → Bool) (xs : List X) → list_any test xs ≡ true → (x : X) × Has xs x × (test x ≡ true)
any_there test [] is = absurd (cc is)
any_there test (x ∷ rest) is = by (test x) refl is (any_there test rest)
  where
    by : (b : Bool) → test x ≡ b → (b || list_any test rest) ≡ true → (list_any test rest ≡ true → (y : _) × Has rest y × (test y ≡ true)) → (y : _) × Has (x ∷ rest) y × (test y ≡ true)
    by true passes is further = (x, inl refl, passes)
    by false fails is further = let k = further is in (k.0, inr k.1, k.2)

pub there_any : {X : Type 0} (test : X → Bool) (xs : List X) (x : X) → Has xs x → test x ≡ true → list_any test xs ≡ true
there_any test [] x has is = absurd has
there_any test (y ∷ rest) x (inl same) is = ap (λ b. b || list_any test rest) (ap test (sym same) ∙ is)
there_any test (y ∷ rest) x (inr has) is = by (test y) (there_any test rest x has is)
  where
    by : (b : Bool) → list_any test rest ≡ true → (b || list_any test rest) ≡ true
    by true further = refl
    by false further = further

-- ---- notices

module _ (q r serial : ℕ) where
  pub no_release : (f : Key × Entry) → ends_node q r serial f ≡ true → is_any_release_notice f ≡ false
  no_release (k, Message origin user index dest offset len nodes slots handles payload) is = refl
  no_release (k, OwnNotice mine index) is = refl
  no_release (k, ForeignNotice node index) is = refl
  no_release (k, ReleaseNotice mine) is = absurd (cc is)

  pub no_data : (f : Key × Entry) → ends_node q r serial f ≡ true → is_data f.1 ≡ false
  no_data (k, Message origin user index dest offset len nodes slots handles payload) is = absurd (cc is)
  no_data (k, OwnNotice mine index) is = refl
  no_data (k, ForeignNotice node index) is = refl
  no_data (k, ReleaseNotice mine) is = refl

  -- a key says nothing of the node
  pub any_stamp : (stamp : ℕ) (f : Key × Entry) → ends_node q r serial (with_stamp stamp f) ≡ ends_node q r serial f
  any_stamp stamp (k, Message origin user index dest offset len nodes slots handles payload) = refl
  any_stamp stamp (k, OwnNotice mine index) = refl
  any_stamp stamp (k, ForeignNotice node index) = refl
  any_stamp stamp (k, ReleaseNotice mine) = refl
