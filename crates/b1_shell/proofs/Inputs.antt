-- What is said of an input, once it was read.
use Rattle.std.proofs.Common.{◌≡◌, ◌≢◌, refl, sym, ap, subst, arith, inl, inr, ℕ, ◌+◌, ◌<◌, ◌≤◌, List, [], length, drop, Option, Some, None, Result, Ok, Err, IfOk, IfSome}
use Rattle.std.specs.Prelude.{IfNone}
use Rattle.std.proofs.lemmas.List.{length-drop}
use Rattle.b1_errs.specs.declared.Cause.{Cause}
use Rattle.b1_errs.specs.declared.NotRead.{NotRead}
use Rattle.b1_errs.specs.declared.NotRead.TheVariants as unread
use Rattle.b1_input.specs.declared.input.Front.{Front}
use Rattle.b1_input.specs.Held.{IsFront}
use Rattle.b1_model.specs.declared.limits.TheConstants.{MOST_CHECKED, MOST_SCRIPT}
use Rattle.b1_model.specs.declared.records.Record.{Record}
use Rattle.b1_records.specs.Reading.{Fails, Fault}
use Rattle.b1_report.specs.Parsing as reports
use Rattle.b1_report.specs.Report.{Cookies}
use Rattle.b1_script.specs.declared.script.Script.{Script}
use Rattle.b1_script.specs.Spelling.{HasFields, HasSpelling, IsScript, IsWhole, spelling}
use Rattle.b1_upgrade.specs.Upgraded.{upgraded}
use Rattle.b1_shell.specs.Faults.{report, too_long}
use Rattle.b1_errs.specs.declared.Cause.TheVariants as causes
use Rattle.b1_shell.specs.declared.Said.{Said}
use Rattle.b1_shell.specs.declared.Said.TheVariants.{Bad}
use Rattle.b1_shell.specs.declared.forms.Form.{Form}
use Rattle.b1_shell.specs.declared.forms.Form.TheVariants.{Check, Migrate}
use Rattle.b1_shell.specs.Answers.{IsAsked, IsFaulty, IsMigrated}
use Rattle.b1_shell.specs.Forms.{most_input}
use Rattle.b1_shell.specs.Reads.{IsChecked, IsRead}
use Rattle.b1_shell.specs.Texts.{bad_line}
use Rattle.b1_shell.proofs.Lemmas.{long_is_fault}

-- what is said of the bytes that were read is said of those that were held
pub is_read : (Says : List ℕ → Said → List ℕ → Type 0) (form : Form) (held left : Option (List ℕ)) (said : Said) (text bytes : List ℕ)
    → Says bytes said text → (IsAsked form bytes → said ≢ Bad) → IfSome held (λ input. bytes ≡ input) → IfSome held (λ _. left ≡ Some []) → IsRead Says form held left said text
is_read Says form None left said text bytes says asked same end = record { says = tt; accepted = tt; end = tt; unless_bad = λ other. tt }
is_read Says form (Some input) left said text bytes says asked same end = record {
  says = subst (λ (x : List ℕ). Says x said text) same says;
  accepted = λ accepted. asked (subst (λ (x : List ℕ). IsAsked form x) (sym same) accepted.asked);
  end = λ few. end;
  unless_bad = λ other. end;
}

-- of too many bytes it is said that they are too many
pub is_long : (Says : List ℕ → Said → List ℕ → Type 0) (form : Form) (held left : Option (List ℕ)) (text : List ℕ)
    → ((input : List ℕ) → IsFaulty form input text → Says input Bad text) → IfSome held (λ input. most_input form < length input) → text ≡ bad_line (most_input form) causes.Long → IsRead Says form held left Bad text
is_long Says form None left text says above is = record { says = tt; accepted = tt; end = tt; unless_bad = λ other. tt }
is_long Says form (Some input) left text says above is = record {
  says = says input (record { at = most_input form; cause = causes.Long; fault = long_is_fault form input above; text_is = is });
  accepted = λ accepted same. omega (arith, above, accepted.few);
  end = λ few. absurd (omega (arith, above, few));
  unless_bad = λ other. absurd (other refl);
}

-- what is known of a value that is there, and where none is
pub some_of : {T : Type 0} (o : Option T) (t : T) (P : T → Type 0) → o ≡ Some t → IfSome o P → P t
some_of o t P is h = subst (λ x. IfSome x P) is h

pub none_of : {T : Type 0} (o : Option T) (P : Type 0) → o ≡ None → IfNone o P → P
none_of o P is h = subst (λ x. IfNone x P) is h

-- ---- a script that is to get cookies

-- the bytes of a script with cookies
pub migrated_is : (input text : List ℕ) (script made : Script) → IsWhole input script → (made ≡ upgraded script) × HasSpelling made → HasFields made → text ≡ spelling made → IsMigrated input text
migrated_is input text script made whole is fields written = record {
  script = script;
  spelled = whole;
  written = subst (λ (s : Script). IsWhole text s) is.0 (record { has_spelling = is.1; fields = fields; spelled = written });
}

-- a script that is too long with cookies has a fault at the most that a script may have
pub too_long_is : (input text : List ℕ) (script : Script) → IsWhole input script → MOST_SCRIPT < length (spelling (upgraded script)) → text ≡ bad_line MOST_SCRIPT causes.Long → IsFaulty Migrate input text
too_long_is input text script whole long line = record { at = MOST_SCRIPT; cause = causes.Long; fault = too_long script whole long refl refl; text_is = line }

-- ---- a script with its report

-- the place of a report's fault is within the report
pub place_within : (cookies : Cookies) (peers at : ℕ) (bytes : List ℕ) (cause : Cause) → reports.TellsFault cookies peers bytes (unread.Bad at cause) → at ≤ length bytes
place_within cookies peers at bytes causes.Line tells = elim tells [ inl line ↦ omega (arith, line.there) | inr early ↦ omega (arith, early.end) ]
place_within cookies peers at bytes causes.Short tells = absurd tells
place_within cookies peers at bytes causes.Magic tells = absurd tells
place_within cookies peers at bytes causes.Version tells = absurd tells
place_within cookies peers at bytes causes.Count tells = absurd tells
place_within cookies peers at bytes causes.Reserved tells = absurd tells
place_within cookies peers at bytes causes.Command tells = absurd tells
place_within cookies peers at bytes causes.Flags tells = absurd tells
place_within cookies peers at bytes causes.Range tells = absurd tells
place_within cookies peers at bytes causes.Wiring tells = absurd tells
place_within cookies peers at bytes causes.Length tells = absurd tells
place_within cookies peers at bytes causes.Trailing tells = absurd tells
place_within cookies peers at bytes causes.Long tells = absurd tells

pub told_place : (cookies : Cookies) (peers inner : ℕ) (seen bytes : List ℕ) (cause : Cause) (why : NotRead) → seen ≡ bytes → why ≡ unread.Bad inner cause → reports.TellsFault cookies peers seen why → inner ≤ length bytes
told_place cookies peers inner seen bytes cause why same is tells =
    let told : reports.TellsFault cookies peers bytes why = subst (λ (x : List ℕ). reports.TellsFault cookies peers x why) same tells in
    place_within cookies peers inner bytes cause (subst (λ (x : NotRead). reports.TellsFault cookies peers bytes x) is told)

-- bytes behind a script, where they aren't too many
pub end_within : (front : Front) → IsChecked front → front.end + length front.behind.items ≤ MOST_CHECKED
end_within front is = omega (arith, is.few, is.is.script.stands.within, ap (λ (x : List ℕ). length x) is.is.rest, length-drop front.end is.input)

-- a fault of the report behind a script is one of the input
pub report_fault : (front : Front) (input text seen : List ℕ) (cookies : Cookies) (peers inner : ℕ) (cause : Cause) (why : NotRead) → length input ≤ MOST_CHECKED → IsFront input front.script front.end front.behind.items → peers ≡ length front.script.opening.peers
    → cookies ≡ front.script.cookies → seen ≡ front.behind.items → why ≡ unread.Bad inner cause → reports.TellsFault cookies peers seen why → text ≡ bad_line (front.end + inner) cause → IsFaulty Check input text
report_fault front input text seen cookies peers inner cause why few is count own there_is same tells line =
    let seen_as : reports.TellsFault cookies peers front.behind.items why = subst (λ (x : List ℕ). reports.TellsFault cookies peers x why) there_is tells in
    let told : reports.TellsFault cookies peers front.behind.items (unread.Bad inner cause) = subst (λ (x : NotRead). reports.TellsFault cookies peers front.behind.items x) same seen_as in
    let counted : reports.TellsFault cookies (length front.script.opening.peers) front.behind.items (unread.Bad inner cause) = subst (λ (n : ℕ). reports.TellsFault cookies n front.behind.items (unread.Bad inner cause)) count told in
    let owned : reports.TellsFault front.script.cookies (length front.script.opening.peers) front.behind.items (unread.Bad inner cause) = subst (λ (c : Cookies). reports.TellsFault c (length front.script.opening.peers) front.behind.items (unread.Bad inner cause)) own counted in
    let there : reports.TellsFault front.script.cookies (length front.script.opening.peers) (drop front.end input) (unread.Bad inner cause) = subst (λ (x : List ℕ). reports.TellsFault front.script.cookies (length front.script.opening.peers) x (unread.Bad inner cause)) is.rest owned in
    record { at = front.end + inner; cause = cause; fault = report few front.script front.end inner is.script there refl; text_is = line }

-- an input that is a script with its report has that script at its front
pub asked_report : (input : List ℕ) (front : Front) → IsFront input front.script front.end front.behind.items → ((s : Script) (end : ℕ) → IsScript input s end → ◌≡◌ {A = Result (Script × ℕ) Fault} (Ok (s, end)) (Ok (front.script, front.end)))
    → IsAsked Check input → (outcome : Record) × reports.IsReport front.script.cookies (length front.script.opening.peers) front.behind.items outcome
asked_report input front is only asked =
    let same : ◌≡◌ {A = Script × ℕ} (asked.0, asked.2.end) (front.script, front.end) = cc (only asked.0 asked.2.end asked.2.script) in
    (asked.1, subst (λ (x : List ℕ). reports.IsReport front.script.cookies (length front.script.opening.peers) x asked.1) (sym is.rest) (subst (λ (q : Script × ℕ). reports.IsReport q.0.cookies (length q.0.opening.peers) (drop q.1 input) asked.1) same asked.2.report))

-- what isn't said of a record isn't said of an input with its report
pub checked_said : {X E : Type 0} (said : X → Said) (r : Result X E) (input : List ℕ) (front : Front) → IsFront input front.script front.end front.behind.items
    → ((s : Script) (end : ℕ) → IsScript input s end → ◌≡◌ {A = Result (Script × ℕ) Fault} (Ok (s, end)) (Ok (front.script, front.end)))
    → IfOk r (λ x. (outcome : Record) → reports.IsReport front.script.cookies (length front.script.opening.peers) front.behind.items outcome → said x ≢ Bad) → IfOk r (λ x. IsAsked Check input → said x ≢ Bad)
checked_said said (Err e) input front is only h = tt
checked_said said (Ok x) input front is only h = λ asked. let report = asked_report input front is only asked in h report.0 report.1

-- bytes with a fault at their front are no script with its report
pub refused_front : (input : List ℕ) (at : ℕ) (cause : Cause) (why : NotRead) → why ≡ unread.Bad at cause → ((s : Script) (end : ℕ) → IsScript input s end → Fails {Y = Script × ℕ} why (Ok (s, end))) → IsAsked Check input → ⊥
refused_front input at cause why is only asked =
    let no = subst (λ (x : NotRead). Fails {Y = Script × ℕ} x (Ok (asked.0, asked.2.end))) is (only asked.0 asked.2.end asked.2.script) in
    cc no
