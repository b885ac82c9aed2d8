-- What is said of an accepted input: that it has no fault.
use Rattle.std.proofs.Common.{◌≡◌, ◌⊎◌, inl, inr, refl, sym, ◌∙◌, subst, ap, arith, ℕ, ◌<◌, List, [], ◌∷◌, length, Option, Some, None, IfSome}
use Rattle.b1_script.specs.declared.script.Script.{Script}
use Rattle.b1_shell.specs.declared.Said.{Said}
use Rattle.b1_shell.specs.declared.Said.TheVariants.{Done, Bad, Stalled, Broken}
use Rattle.b1_shell.specs.declared.forms.Form.{Form}
use Rattle.b1_shell.specs.declared.forms.Form.TheVariants.{Play, Asm, Dump, Check, Migrate}
use Rattle.b1_shell.specs.Answers.{IsAccepted, IsAnswer, Says, SaysOf, status}
use Rattle.b1_shell.specs.Ends.{Completes, ReadsToEnd}
use Rattle.b1_shell.specs.Reads.{IsRead}
use Rattle.b1_shell.specs.Forms.{Asks, most_input, word_of}
use Rattle.b1_shell.specs.Runs.{RunCompletes, RunSays, RunSaysOf}

-- of a script that is played or run, no fault is said
pub said_of_script : (s : Script) (said : Said) (text : List ℕ) → SaysOf s said text → said ≡ Bad → ⊥
said_of_script s Done text says e = cc e
said_of_script s Stalled text says e = cc e
said_of_script s Bad text says e = says
said_of_script s Broken text says e = says

pub said_of_run : (s : Script) (said : Said) (text : List ℕ) → RunSaysOf s said text → said ≡ Bad → ⊥
said_of_run s Done text says e = cc e
said_of_run s Stalled text says e = cc e
said_of_run s Bad text says e = says
said_of_run s Broken text says e = says

-- a word is that of one form
first : List ℕ → ℕ
first [] = 0
first (x ∷ xs) = x

pub same_form : (a b : Form) → word_of a ≡ word_of b → a ≡ b
unfolding first
same_form Play Play e = refl
same_form Play Asm e = absurd (omega (arith, ap first e))
same_form Play Dump e = absurd (omega (arith, ap first e))
same_form Play Check e = absurd (omega (arith, ap first e))
same_form Play Migrate e = absurd (omega (arith, ap first e))
same_form Asm Play e = absurd (omega (arith, ap first e))
same_form Asm Asm e = refl
same_form Asm Dump e = absurd (omega (arith, ap first e))
same_form Asm Check e = absurd (omega (arith, ap first e))
same_form Asm Migrate e = absurd (omega (arith, ap first e))
same_form Dump Play e = absurd (omega (arith, ap first e))
same_form Dump Asm e = absurd (omega (arith, ap first e))
same_form Dump Dump e = refl
same_form Dump Check e = absurd (omega (arith, ap first e))
same_form Dump Migrate e = absurd (omega (arith, ap first e))
same_form Check Play e = absurd (omega (arith, ap first e))
same_form Check Asm e = absurd (omega (arith, ap first e))
same_form Check Dump e = absurd (omega (arith, ap first e))
same_form Check Check e = refl
same_form Check Migrate e = absurd (omega (arith, ap first e))
same_form Migrate Play e = absurd (omega (arith, ap first e))
same_form Migrate Asm e = absurd (omega (arith, ap first e))
same_form Migrate Dump e = absurd (omega (arith, ap first e))
same_form Migrate Check e = absurd (omega (arith, ap first e))
same_form Migrate Migrate e = refl

-- what is said of an input that isn't refused has a status of the form
answers : (form : Form) (input text : List ℕ) (said : Said) → Says form input said text → (said ≡ Bad → ⊥) → IsAnswer form (status said)
answers Play input text Done says other = inl refl
answers Play input text Stalled says other = inr (inl refl)
answers Asm input text Done says other = inl refl
answers Asm input text Stalled says other = absurd says
answers Dump input text Done says other = inl refl
answers Dump input text Stalled says other = absurd says
answers Migrate input text Done says other = inl refl
answers Migrate input text Stalled says other = absurd says
answers Check input text Done says other = inl refl
answers Check input text Stalled says other = absurd says
answers Check input text Broken says other = inr (inl refl)
answers Play input text Broken says other = absurd says
answers Asm input text Broken says other = absurd says
answers Dump input text Broken says other = absurd says
answers Migrate input text Broken says other = absurd says
answers form input text Bad says other = absurd (other refl)

run_answers : (input text : List ℕ) (said : Said) → RunSays input said text → (said ≡ Broken → ⊥) → (said ≡ Bad → ⊥) → IsAnswer Play (status said)
run_answers input text Done says whole other = inl refl
run_answers input text Stalled says whole other = inr (inl refl)
run_answers input text Broken says whole other = absurd (whole refl)
run_answers input text Bad says whole other = absurd (other refl)

-- want of memory is an answer of each form
memory_answers : (form : Form) → IsAnswer form 6
memory_answers Play = inr (inr refl)
memory_answers Asm = inr refl
memory_answers Dump = inr refl
memory_answers Migrate = inr refl
memory_answers Check = inr (inr refl)

-- what was written whole of an input that isn't refused
pub completes : (words : List (List ℕ)) (form : Form) (held : Option (List ℕ)) (said : Said) (text : List ℕ) (r : ℕ) → Asks words form
    → (r ≡ status said) ⊎ (r ≡ 5) → (r ≡ 5 → ⊥) → IfSome held (λ input. Says form input said text) → IfSome held (λ input. IsAccepted form input → said ≡ Bad → ⊥)
    → Completes words held r
completes words form None said text r asks known whole says accepted asked same = tt
completes words form (Some input) said text r asks known whole says accepted asked same =
    let one : form ≡ asked = same_form form asked (head (word_of form) (word_of asked) (sym asks ∙ same)) in
    subst (λ (f : Form). IsAccepted f input → IsAnswer f r) one (λ given. subst (λ n. IsAnswer form n) (sym (status_is known)) (answers form input text said says (accepted given)))
  where
    head : (a b : List ℕ) → ◌≡◌ {A = List (List ℕ)} (a ∷ []) (b ∷ []) → a ≡ b
    head a b e = cc e

    status_is : (r ≡ status said) ⊎ (r ≡ 5) → r ≡ status said
    status_is (inl e) = e
    status_is (inr e) = absurd (whole e)

pub run_completes : (held : Option (List ℕ)) (said : Said) (text : List ℕ) (r : ℕ)
    → (r ≡ status said) ⊎ (r ≡ 5) → (r ≡ 5 → ⊥) → IfSome held (λ input. RunSays input said text) → (said ≡ Broken → ⊥) → IfSome held (λ input. IsAccepted Play input → said ≡ Bad → ⊥)
    → RunCompletes held r
run_completes None said text r known whole says unbroken accepted = tt
run_completes (Some input) said text r known whole says unbroken accepted =
    λ given. subst (λ n. IsAnswer Play n) (sym (status_is known)) (run_answers input text said says unbroken (accepted given))
  where
    status_is : (r ≡ status said) ⊎ (r ≡ 5) → r ≡ status said
    status_is (inl e) = e
    status_is (inr e) = absurd (whole e)

-- want of memory
pub memory_completes : (words : List (List ℕ)) (held : Option (List ℕ)) → Completes words held 6
memory_completes words None form asks = tt
memory_completes words (Some input) form asks = λ given. memory_answers form

pub run_memory_completes : (held : Option (List ℕ)) → RunCompletes held 6
run_memory_completes None = tt
run_memory_completes (Some input) = λ given. memory_answers Play

-- ---- the source

-- what is known of a source, by the status of what was said
pub reads_to_end : (words : List (List ℕ)) (form : Form) (held left : Option (List ℕ)) (said : Said) (text : List ℕ) (r : ℕ) → Asks words form
    → (r ≡ status said) ⊎ (r ≡ 5) → IsRead (Says form) form held left said text → ReadsToEnd words held left r
reads_to_end words form held left said text r asks known read = record {
  done = λ is. read.unless_bad (unless 0 is (λ e. cc e) (λ e. cc e));
  bad = λ is. record { form = form; asks = asks; holds = read.end };
  stalled = λ is. read.unless_bad (unless 3 is (λ e. cc e) (λ e. cc e));
  broken = λ is. read.unless_bad (unless 7 is (λ e. cc e) (λ e. cc e));
}
  where
    unless : (n : ℕ) → r ≡ n → (n ≡ 5 → ⊥) → (n ≡ 2 → ⊥) → said ≡ Bad → ⊥
    unless n is five two e = elim known [ inl same ↦ two (sym is ∙ same ∙ ap status e) | inr same ↦ five (sym is ∙ same) ]
