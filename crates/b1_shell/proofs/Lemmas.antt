-- What the functions' proofs cite: of scripts that are played, and of inputs.
use Rattle.std.proofs.Common.{◌-◌, take, drop, ◌≡◌, ◌⊎◌, inl, inr, refl, sym, ◌∙◌, subst, arith, ℕ, ◌+◌, ◌<◌, ◌≤◌, List, length, Option, Some, None, IfSome, lt-ltb}
use Rattle.std.specs.Prelude.{[], ◌∷◌, codes}
use Rattle.std.specs.Fmt.{decimal}
use Rattle.std.proofs.lemmas.Fmt.{decimal_injective}
use Rattle.std.proofs.lemmas.List.{length-drop, take_all}
use Rattle.b1_errs.specs.declared.Cause.TheVariants as causes
use Rattle.b1_errs.specs.declared.Cause.{Cause}
use Rattle.b1_errs.specs.declared.NotRead.{NotRead}
use Rattle.b1_errs.specs.declared.NotRead.TheVariants as unread
use Rattle.b1_io.specs.declared.wholes.NotAll.{NotAll}
use Rattle.b1_io.specs.declared.wholes.NotAll.TheVariants.{Long}
use Rattle.b1_io.specs.Streams.{Took, TookSuch}
use Rattle.b1_io.specs.Whole.{OnLong}
use Rattle.b1_report.specs.Parsing as reports
use Rattle.b1_script.specs.declared.script.Script.{Script}
use Rattle.b1_script.specs.Reading.{bad, whole_at}
use Rattle.b1_script.specs.Spelling.{IsScript}
use Rattle.b1_shell.specs.declared.Said.{Said}
use Rattle.b1_shell.specs.declared.Said.TheVariants.{Done, Bad, Stalled, Broken}
use Rattle.b1_shell.specs.declared.forms.Form.{Form}
use Rattle.b1_shell.specs.declared.forms.Form.TheVariants.{Play, Asm, Dump, Check, Migrate}
use Rattle.b1_shell.specs.Answers.{Says, TookText, TookPart, status}
use Rattle.b1_shell.specs.Ends.{TellsInput}
use Rattle.b1_shell.specs.Runs.{RunSays, TellsRun}
use Rattle.b1_shell.specs.Threads as threads
use Rattle.b1_shell.specs.declared.threaded.Threaded.TheVariants.{Soak}
use Rattle.b1_shell.specs.Faults.{IsFault, long, report, no_script}
use Rattle.b1_model.specs.declared.limits.TheConstants.{MOST_CHECKED, MOST_SCRIPT}
use Rattle.b1_shell.specs.Forms.{Asks, most_input}
use Rattle.b1_shell.specs.Texts.{bad_line}

-- too many bytes are the first fault
pub long_is_bad : (bytes : List ℕ) → MOST_SCRIPT < length bytes → bad bytes ≡ Some (MOST_SCRIPT, causes.Long)
unfolding whole_at
long_is_bad bytes h = rw (lt-ltb _ _ h) refl

-- what holds of the bytes that were read holds of those that were held
pub carried : (left : Option (List ℕ)) (bytes : List ℕ) (P : List ℕ → Type 0) → IfSome left (λ held. bytes ≡ held) → P bytes → IfSome left P
carried None bytes P same h = tt
carried (Some held) bytes P same h = subst P same h

-- what follows for each list that is held
pub followed : (left : Option (List ℕ)) (P Q : List ℕ → Type 0) → ((held : List ℕ) → P held → Q held) → IfSome left P → IfSome left Q
followed None P Q f h = tt
followed (Some held) P Q f h = f held h

-- too many bytes are a fault of any form
pub long_is_fault : (form : Form) (bytes : List ℕ) → most_input form < length bytes → IsFault form bytes (most_input form) causes.Long
long_is_fault Play bytes h = long_is_bad bytes h
long_is_fault Asm bytes h = (refl, h)
long_is_fault Dump bytes h = long_is_bad bytes h
long_is_fault Migrate bytes h = no_script (long_is_bad bytes h)
long_is_fault Check bytes h = long h refl refl

-- a part of what is said of the held bytes was taken
took_part : (P : List ℕ → Said → List ℕ → Type 0) (said : Said) (held old new : Option (List ℕ)) (text : List ℕ) → TookSuch old new text (λ n. n < length text) → IfSome held (λ input. P input said text) → IfSome held (λ input. TookPart old new (λ t. (s : Said) × P input s t))
took_part P said None old new text took says = tt
took_part P said (Some input) old new text took says = (text, (said, says), took)

-- ---- what was written, by the status

done_of : (said : Said) → status said ≡ 0 → said ≡ Done
done_of Done is = refl
done_of Bad is = absurd (cc is)
done_of Stalled is = absurd (cc is)
done_of Broken is = absurd (cc is)

bad_of : (said : Said) → status said ≡ 2 → said ≡ Bad
bad_of Bad is = refl
bad_of Done is = absurd (cc is)
bad_of Stalled is = absurd (cc is)
bad_of Broken is = absurd (cc is)

stalled_of : (said : Said) → status said ≡ 3 → said ≡ Stalled
stalled_of Stalled is = refl
stalled_of Done is = absurd (cc is)
stalled_of Bad is = absurd (cc is)
stalled_of Broken is = absurd (cc is)

broken_of : (said : Said) → status said ≡ 7 → said ≡ Broken
broken_of Broken is = refl
broken_of Done is = absurd (cc is)
broken_of Bad is = absurd (cc is)
broken_of Stalled is = absurd (cc is)

-- what is said of an input was taken whole
took_text : (P : List ℕ → List ℕ → Type 0) (held old new : Option (List ℕ)) (text : List ℕ) → Took old new text → IfSome held (λ input. P input text) → IfSome held (λ input. TookText old new (P input))
took_text P None old new text took says = tt
took_text P (Some input) old new text took says = (text, says, took)

-- a text was written, or a part of it, and the status is that of what it says, or 5
pub record Written (said : Said) (text : List ℕ) (old new : Option (List ℕ)) (r : ℕ) : Type 0 where
  pub known : (r ≡ status said) ⊎ (r ≡ 5)
  pub whole : (r ≡ 5 → ⊥) → Took old new text
  pub part : r ≡ 5 → TookSuch old new text (λ n. n < length text)

module _ {said : Said} {text : List ℕ} {old new : Option (List ℕ)} {r : ℕ} (written : Written said text old new r) where
  status_is : (n : ℕ) → r ≡ n → (n ≡ 5 → ⊥) → status said ≡ n
  status_is n is other = elim written.known [ inl e ↦ sym e ∙ is | inr e ↦ absurd (other (sym is ∙ e)) ]

  -- by the kind of text
  pub took_by : (P : List ℕ → Said → List ℕ → Type 0) (held : Option (List ℕ)) (n : ℕ) (kind : Said) → ((s : Said) → status s ≡ n → s ≡ kind) → (n ≡ 5 → ⊥) → r ≡ n → IfSome held (λ input. P input said text) → IfSome held (λ input. TookText old new (P input kind))
  took_by P held n kind of other is says =
      let same : said ≡ kind = of said (status_is n is other) in
      took_text (λ input t. P input kind t) held old new text (written.whole (λ five. other (sym is ∙ five))) (subst (λ s. IfSome held (λ input. P input s text)) same says)

  pub tells_input : (words : List (List ℕ)) (form : Form) → Asks words form → (held : Option (List ℕ)) → IfSome held (λ input. Says form input said text) → TellsInput words held old new r
  tells_input words form asks held says = record {
    done = λ is. record { form = form; asks = asks; holds = took_by (Says form) held 0 Done done_of (λ e. cc e) is says };
    bad = λ is. record { form = form; asks = asks; holds = took_by (Says form) held 2 Bad bad_of (λ e. cc e) is says };
    stalled = λ is. record { form = form; asks = asks; holds = took_by (Says form) held 3 Stalled stalled_of (λ e. cc e) is says };
    broken = λ is. record { form = form; asks = asks; holds = took_by (Says form) held 7 Broken broken_of (λ e. cc e) is says };
    part = λ five asked. record { form = form; asks = asks; holds = took_part (Says form) said held old new text (written.part five) says };
  }

  -- what `run` wrote
  pub tells_run : (held left : Option (List ℕ)) → IfSome held (λ input. RunSays input said text) → (said ≡ Broken → ⊥)
      → IfSome held (λ input. length input ≤ MOST_SCRIPT → left ≡ Some []) → (said ≡ Done → IfSome held (λ _. left ≡ Some [])) → (said ≡ Stalled → IfSome held (λ _. left ≡ Some []))
      → TellsRun held left old new r
  tells_run held left says unbroken end done_end stalled_end = record {
    done = λ is. took_by RunSays held 0 Done done_of (λ e. cc e) is says;
    bad = λ is. took_by RunSays held 2 Bad bad_of (λ e. cc e) is says;
    stalled = λ is. took_by RunSays held 3 Stalled stalled_of (λ e. cc e) is says;
    part = λ five. took_part RunSays said held old new text (written.part five) says;
    read = λ which. elim which [ inl is ↦ done_end (done_of said (status_is 0 is (λ e. cc e))) | inr is ↦ stalled_end (stalled_of said (status_is 3 is (λ e. cc e))) ];
    read_bad = λ is. end;
    others = (λ is. no_status said (status_is 1 is (λ e. cc e)), λ is. unbroken (broken_of said (status_is 7 is (λ e. cc e))));
  }
    where
      no_status : (s : Said) → status s ≡ 1 → ⊥
      no_status Done is = cc is
      no_status Bad is = cc is
      no_status Stalled is = cc is
      no_status Broken is = cc is

-- ---- words

-- the words ask for one thing at most
pub same_soak : (words : List (List ℕ)) (n k : ℕ) → threads.Asks words (Soak n) → threads.Asks words (Soak k) → n ≡ k
same_soak words n k a b = decimal_injective n k (omega (arith, a.0)) (omega (arith, b.0)) (second (decimal n) (decimal k) (sym a.1 ∙ b.1))
  where
    second : (x y : List ℕ) → ◌≡◌ {A = List (List ℕ)} (codes "soak" ∷ x ∷ []) (codes "soak" ∷ y ∷ []) → x ≡ y
    second x y e = cc e
