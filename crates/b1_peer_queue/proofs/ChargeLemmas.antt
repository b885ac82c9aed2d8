-- What users are charged, where messages come in, leave and are committed.
use Rattle.std.proofs.Common.{◌≡◌, ◌==◌, refl, sym, ap, ◌∙◌, ℕ, ◌+◌, ◌≤◌, Bool, true, false, List, length, find, drop, Option, Some, None, arith}
use Rattle.std.specs.Prelude.{slice_get}
use Rattle.std.specs.Option.{IfSome}
use Rattle.std.proofs.lemmas.Bool.{eq-eqb}
use Rattle.b1_model.specs.declared.naming.Key.{Key}
use Rattle.b1_model.specs.declared.entries.Entry.{Entry}
use Rattle.b1_model.specs.declared.entries.Entry.TheVariants.{Message, OwnNotice, ForeignNotice, ReleaseNotice}
use Rattle.b1_model.specs.declared.entries.Charge.{Charge}
use Rattle.b1_model.specs.declared.parts.Slot.{Slot}
use Rattle.b1_model.specs.declared.answers.Quantity.{Quantity}
use Rattle.b1_model.specs.declared.answers.Quantity.TheVariants.{Entries, Bytes, Handles}
use Rattle.b1_model.specs.MachineParts.{is_data, is_odd}
use Rattle.b1_model.specs.MachineTables.{amount, is_stage, put, without}
use Rattle.b1_model.specs.MachineSend.{with_slots}
use Rattle.b1_step.specs.Ordered.{Ascending, NewKey}
use Rattle.b1_quota.specs.declared.accounts.Account.{Account}
use Rattle.b1_quota.specs.Accounts.{amount_in, charged_to, has_account, own, users_of}
use Rattle.b1_quota.specs.Charges.{Charges, refusal}
use Rattle.b1_peer_queue.specs.Mail.{IsCommittable, IsNewNotice, IsSound, committed_queue, count, notices_queue}
use Rattle.b1_peer_queue.specs.Charged.{HasSlots, IsAdmitted, IsChargeable, IsCharged, IsSmall, charge_for, charge_of, weight}
use Rattle.b1_peer_queue.proofs.ListLemmas.{find_passes, none_found}
use Rattle.b1_peer_queue.proofs.MailLemmas.{charged_first, charged_notices, charged_put, charged_without, every_has, mail_committed, mail_message, mail_notice, mail_notices, mail_rest, mail_without, same_weight, slots_fit}

-- ---- one entry

pub admitted_parts : (q : Charges) (e : Entry) (user : ℕ) (charge : Charge) → IsAdmitted q e → charge_of e ≡ Some (user, charge) → (has_account user q.accounts ≡ true) × (refusal q user charge ≡ None)
admitted_parts q (Message origin who index serial offset len nodes slots handles payload) user charge admitted is =
    let same : ◌≡◌ {A = ℕ × Charge} (who, charge_for len (length nodes)) (user, charge) = cc is in
    let at : who ≡ user = ap (λ (p : ℕ × Charge). p.0) same in
    let this : charge_for len (length nodes) ≡ charge = ap (λ (p : ℕ × Charge). p.1) same in
    (ap (λ (u : ℕ). has_account u q.accounts) (sym at) ∙ admitted.0, ap (λ (u : ℕ). refusal q u charge) (sym at) ∙ ap (refusal q who) (sym this) ∙ admitted.1)
admitted_parts q (OwnNotice serial index) user charge admitted is = absurd (cc is)
admitted_parts q (ForeignNotice node index) user charge admitted is = absurd (cc is)
admitted_parts q (ReleaseNotice serial) user charge admitted is = absurd (cc is)

amount_same : (what : Quantity) (len handles : ℕ) → amount_in what (charge_for len handles) ≡ amount what len handles
amount_same Entries len handles = refl
amount_same Bytes len handles = refl
amount_same Handles len handles = refl

pub chargeable_parts : (accounts : List Account) (e : Entry) (user : ℕ) (charge : Charge) → IsChargeable accounts e → charge_of e ≡ Some (user, charge) → (what : Quantity) → amount_in what charge ≤ own what user accounts
chargeable_parts accounts (Message origin who index serial offset len nodes slots handles payload) user charge chargeable is what =
    let same : ◌≡◌ {A = ℕ × Charge} (who, charge_for len (length nodes)) (user, charge) = cc is in
    let at : who ≡ user = ap (λ (p : ℕ × Charge). p.0) same in
    let this : charge_for len (length nodes) ≡ charge = ap (λ (p : ℕ × Charge). p.1) same in
    let much : amount_in what charge ≡ amount what len (length nodes) = ap (amount_in what) (sym this) ∙ amount_same what len (length nodes) in
    let whose : own what who accounts ≡ own what user accounts = ap (λ (u : ℕ). own what u accounts) at in
    omega (arith, much, whose, chargeable.1 what)
chargeable_parts accounts (OwnNotice serial index) user charge chargeable is what = absurd (cc is)
chargeable_parts accounts (ForeignNotice node index) user charge chargeable is what = absurd (cc is)
chargeable_parts accounts (ReleaseNotice serial) user charge chargeable is what = absurd (cc is)

pub small_sound : (users : List ℕ) (k : Key) (e : Entry) → IsSound users (k, e) → IsSmall e
small_sound users k (Message origin user index serial offset len nodes slots handles payload) sound = (omega (arith, sound.len_is, sound.short), sound.few)
small_sound users k (OwnNotice serial index) sound = tt
small_sound users k (ForeignNotice node index) sound = tt
small_sound users k (ReleaseNotice serial) sound = tt

chargeable_sound : (accounts : List Account) (k : Key) (e : Entry) → IsSound (users_of accounts) (k, e) → ((what : Quantity) (passes : ℕ → Bool) → weight what passes e ≤ charged_to what passes accounts) → IsChargeable accounts e
chargeable_sound accounts k (Message origin user index serial offset len nodes slots handles payload) sound covered =
    (sound.user_known, λ what. let h = covered what (λ u. u == user) in let s = rw (eq-eqb user user refl) at h in omega (arith, s))
chargeable_sound accounts k (OwnNotice serial index) sound covered = tt
chargeable_sound accounts k (ForeignNotice node index) sound covered = tt
chargeable_sound accounts k (ReleaseNotice serial) sound covered = tt

-- ---- a queue

module _ (old new : List Account) (queue : List (Key × Entry)) (h : IsCharged old queue) (users : users_of new ≡ users_of old) where
  -- a message comes in
  pub charged_message : (k : Key) (e : Entry) → ((what : Quantity) (passes : ℕ → Bool) → charged_to what passes new ≡ charged_to what passes old + weight what passes e) → is_data e ≡ true → IsSound (users_of old) (k, e) → NewKey k queue → find (is_stage k.origin k.index) queue ≡ None → IsCharged new (put k e queue)
  charged_message k e charges data_is sound fresh none = record {
    mail = rw users (mail_message (users_of old) queue h.mail k e data_is sound fresh none);
    charges = λ what passes. omega (arith, charges what passes, h.charges what passes, charged_put what passes k e queue);
  }

  -- an entry leaves
  pub charged_left : (test : Key × Entry → Bool) (k : Key) (e : Entry) → find test queue ≡ Some (k, e) → count test queue ≤ 1 → ((what : Quantity) (passes : ℕ → Bool) → charged_to what passes new + weight what passes e ≡ charged_to what passes old) → IsCharged new (without test queue)
  charged_left test k e is one charges = record {
    mail = rw users (mail_without (users_of old) queue h.mail test);
    charges = λ what passes. omega (arith, charges what passes, h.charges what passes, charged_without what passes test queue (k, e) is one);
  }

  pub charged_rest : (k : Key) (e : Entry) → slice_get queue 0 ≡ Some (k, e) → ((what : Quantity) (passes : ℕ → Bool) → charged_to what passes new + weight what passes e ≡ charged_to what passes old) → IsCharged new (drop 1 queue)
  charged_rest k e is charges = record {
    mail = rw users (mail_rest (users_of old) queue h.mail);
    charges = λ what passes. omega (arith, charges what passes, h.charges what passes, charged_first what passes queue (k, e) is);
  }

module _ (accounts : List Account) (queue : List (Key × Entry)) (h : IsCharged accounts queue) where
  pub charged_same : (test : Key × Entry → Bool) → find test queue ≡ None → IsCharged accounts (without test queue)
  charged_same test none = rw (none_found test queue none) h

  -- what is found is small and charged
  pub small_found : (test : Key × Entry → Bool) (k : Key) (e : Entry) → find test queue ≡ Some (k, e) → IsSmall e
  small_found test k e is = small_sound (users_of accounts) k e (every_has (IsSound (users_of accounts)) queue (k, e) (find_passes test queue (k, e) is).0 h.mail.sound)

  pub chargeable_found : (test : Key × Entry → Bool) (k : Key) (e : Entry) → find test queue ≡ Some (k, e) → count test queue ≤ 1 → IsChargeable accounts e
  chargeable_found test k e is one =
      chargeable_sound accounts k e (every_has (IsSound (users_of accounts)) queue (k, e) (find_passes test queue (k, e) is).0 h.mail.sound)
      (λ what passes. omega (arith, h.charges what passes, charged_without what passes test queue (k, e) is one))

  -- a notice comes in
  pub charged_notice : (k : Key) (e : Entry) → is_data e ≡ false → NewKey k queue → IsNewNotice e queue → IsCharged accounts (put k e queue)
  charged_notice k e data_is fresh none = record {
    mail = mail_notice (users_of accounts) queue h.mail k e data_is fresh none;
    charges = λ what passes. omega (arith, h.charges what passes, charged_put what passes k e queue, light what passes e data_is);
  }
    where
      light : (what : Quantity) (passes : ℕ → Bool) (e : Entry) → is_data e ≡ false → weight what passes e ≡ 0
      light what passes (Message origin user index serial offset len nodes slots handles payload) is = absurd (cc is)
      light what passes (OwnNotice serial index) is = refl
      light what passes (ForeignNotice node index) is = refl
      light what passes (ReleaseNotice serial) is = refl

  -- a message is committed
  pub fits_found : (origin index stamp : ℕ) (more : List Slot) (o : Option (Key × Entry)) → o ≡ find (is_stage origin index) queue → IsCommittable o origin index stamp more queue → IfSome o (λ f. HasSlots (length more) f.1)
  fits_found origin index stamp more None is fits = tt
  fits_found origin index stamp more (Some (k, e)) is fits =
      slots_fit (users_of accounts) k e more (every_has (IsSound (users_of accounts)) queue (k, e) (find_passes (is_stage origin index) queue (k, e) (sym is)).0 h.mail.sound) fits.0

  pub charged_committed : (origin index stamp : ℕ) → is_odd stamp ≡ false → (more : List Slot) (o : Option (Key × Entry)) → o ≡ find (is_stage origin index) queue → IsCommittable o origin index stamp more queue → IsCharged accounts (committed_queue o origin index stamp more queue)
  charged_committed origin index stamp even more None is fits = h
  charged_committed origin index stamp even more (Some (k, e)) is fits = record {
    mail = mail_committed (users_of accounts) queue h.mail origin index stamp even more (Some (k, e)) is fits;
    charges = λ what passes.
        omega (
          arith,
          h.charges what passes,
          charged_without what passes (is_stage origin index) queue (k, e) (sym is) (h.mail.one_stage origin index),
          charged_put what passes (record { stamp = stamp; origin = origin; index = index }) (with_slots more e) (without (is_stage origin index) queue),
          same_weight what passes more e,
        );
  }

  -- notices are committed
  pub charged_noticed : (origin stamp : ℕ) → is_odd stamp ≡ false → Ascending (notices_queue origin stamp queue) → IsCharged accounts (notices_queue origin stamp queue)
  charged_noticed origin stamp even up = record {
    mail = mail_notices (users_of accounts) queue h.mail origin stamp even up;
    charges = λ what passes. h.charges what passes ∙ sym (charged_notices what passes origin stamp queue);
  }
