-- Walks over a peer's calls: what they give of a list that has grown, and of two look-ups that agree.
use Rattle.std.specs.Prelude.{◌≡◌, refl, ℕ, suc, Bool, true, false, if◌then◌else◌, List, [], ◌∷◌, ◌++◌, slice_get, Option, Some, None, option_map, ⊤}
use Rattle.std.proofs.lemmas.Option.{same_Some}
use Rattle.std.proofs.Common.{subst, ap, ◌∙◌}
use Rattle.b1_model.specs.declared.naming.Key.{Key}
use Rattle.b1_model.specs.declared.commands.Command.{Command}
use Rattle.b1_model.specs.declared.commands.Command.TheVariants as cmd
use Rattle.b1_model.specs.declared.answers.Receipt.TheVariants as rec
use Rattle.b1_model.specs.declared.answers.Answer.{Answer}
use Rattle.b1_model.specs.declared.answers.Answer.TheVariants as ans
use Rattle.b1_model.specs.declared.records.Call.{Call}
use Rattle.b1_model.specs.Names.{Node, Name, add_new, next_epoch, carried_by, made_in, epoch_in}
use Rattle.b1_model.specs.Ledger.{Table, received_all, changed, table_in, is_send, sent_at}
use Rattle.b1_model.specs.Legal.{last_after, last_in}
use Rattle.b1_ledger.proofs.Sequences.{Each}

pub made_in-append : (e : ℕ) (known : List Name) (xs ys : List Call) → made_in e known (xs ++ ys) ≡ made_in (epoch_in e xs) (made_in e known xs) ys
made_in-append e known [] ys = refl
made_in-append e known (c ∷ xs) ys = made_in-append (next_epoch e c.answer) (add_new e known (carried_by c.command c.answer)) xs ys

pub epoch_in-append : (e : ℕ) (xs ys : List Call) → epoch_in e (xs ++ ys) ≡ epoch_in (epoch_in e xs) ys
epoch_in-append e [] ys = refl
epoch_in-append e (c ∷ xs) ys = epoch_in-append (next_epoch e c.answer) xs ys

pub last_in-append : (l : Option Key) (xs ys : List Call) → last_in l (xs ++ ys) ≡ last_in (last_in l xs) ys
last_in-append l [] ys = refl
last_in-append l (c ∷ xs) ys = last_in-append (last_after l c.answer) xs ys

pub table_in-append : (look : Key → List (Option Node)) (t : Table) (xs ys : List Call) → table_in look t (xs ++ ys) ≡ table_in look (table_in look t xs) ys
table_in-append look t [] ys = refl
table_in-append look t (c ∷ xs) ys = table_in-append look (changed look c.command c.answer t) xs ys

-- two look-ups agree on the key of an answer, if it is a message receipt
abbrev pub AgreesAt : (Key → List (Option Node)) → (Key → List (Option Node)) → Answer → Type 0
AgreesAt look seek (ans.Got (rec.Message key number offset handles payload)) = look key ≡ seek key
AgreesAt look seek a = ⊤

pub changed-same : (look seek : Key → List (Option Node)) (c : Command) (a : Answer) (t : Table) → AgreesAt look seek a → changed look c a t ≡ changed seek c a t
changed-same look seek c (ans.Got (rec.Message key number offset handles payload)) t h = ap (λ s. received_all s handles t) h
changed-same look seek c (ans.Reset stamp) t h = refl
changed-same look seek (cmd.Release n) ans.Done t h = refl
changed-same look seek c a t h = refl

pub table_in-same : (look seek : Key → List (Option Node)) (t : Table) (cs : List Call) → Each (λ c. AgreesAt look seek c.answer) cs → table_in look t cs ≡ table_in seek t cs
table_in-same look seek t [] h = refl
table_in-same look seek t (c ∷ cs) h = ap (λ u. table_in look u cs) (changed-same look seek c.command c.answer t h.0) ∙ table_in-same look seek (changed seek c.command c.answer t) cs h.1

-- a send that is found stays found, at its place
pub sent_at-append : (stamp : ℕ) (xs ys : List Call) (i : ℕ) → sent_at stamp xs ≡ Some i → sent_at stamp (xs ++ ys) ≡ Some i
sent_at-append stamp [] ys i e = cc
sent_at-append stamp (c ∷ xs) ys i e = go (is_send stamp c.command c.answer) (sent_at stamp xs) refl (λ j f. sent_at-append stamp xs ys j f) e
  where
    go : (b : Bool) (o : Option ℕ) → sent_at stamp xs ≡ o → ((j : ℕ) → sent_at stamp xs ≡ Some j → sent_at stamp (xs ++ ys) ≡ Some j) → (if b then Some 0 else option_map suc o) ≡ Some i → (if b then Some 0 else option_map suc (sent_at stamp (xs ++ ys))) ≡ Some i
    go true o f ih h = h
    go false None f ih h = cc
    go false (Some j) f ih h = rw (ih j f) h

-- a call that is no such send adds none
pub sent_at-more : (stamp : ℕ) (xs : List Call) (c : Call) → is_send stamp c.command c.answer ≡ false → sent_at stamp (xs ++ c ∷ []) ≡ sent_at stamp xs
sent_at-more stamp [] c e = rw e refl
sent_at-more stamp (d ∷ xs) c e = rw (sent_at-more stamp xs c e) refl

-- what stands where a send is found
pub sent_at-call : (stamp : ℕ) (xs : List Call) (i : ℕ) → sent_at stamp xs ≡ Some i → (c : Call) × (slice_get xs i ≡ Some c) × (is_send stamp c.command c.answer ≡ true)
sent_at-call stamp [] i e = cc
sent_at-call stamp (c ∷ xs) i e = go (is_send stamp c.command c.answer) (sent_at stamp xs) refl refl (λ j f. sent_at-call stamp xs j f) e
  where
    go : (b : Bool) (o : Option ℕ) → is_send stamp c.command c.answer ≡ b → sent_at stamp xs ≡ o → ((j : ℕ) → sent_at stamp xs ≡ Some j → (d : Call) × (slice_get xs j ≡ Some d) × (is_send stamp d.command d.answer ≡ true)) → (if b then Some 0 else option_map suc o) ≡ Some i → (d : Call) × (slice_get (c ∷ xs) i ≡ Some d) × (is_send stamp d.command d.answer ≡ true)
    go true o f g ih h = subst (λ j. (d : Call) × (slice_get (c ∷ xs) j ≡ Some d) × (is_send stamp d.command d.answer ≡ true)) (same_Some _ _ h) (c, refl, f)
    go false None f g ih h = cc
    go false (Some j) f g ih h = subst (λ j. (d : Call) × (slice_get (c ∷ xs) j ≡ Some d) × (is_send stamp d.command d.answer ≡ true)) (same_Some _ _ h) (ih j g)
