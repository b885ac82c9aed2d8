-- What is known of a call's line by its equals sign.
use Rattle.std.specs.Prelude.{codes}
use Rattle.std.proofs.Common.{◌≡◌, ℕ, Bool, true, false, eqb, List, [], ◌∷◌, ◌++◌, Option, Some, None, Result, Ok, Err, IfOk, refl, sym, ap, subst, ◌∙◌, inl, inr, ◌⊎◌, eq-eqb}
use Rattle.std.proofs.lemmas.List.{append_assoc, append-nil}
use Rattle.b1_model.specs.declared.answers.Answer.{Answer}
use Rattle.b1_model.specs.declared.answers.Answer.TheVariants as ans
use Rattle.b1_model.specs.declared.commands.Command.{Command}
use Rattle.b1_model.specs.declared.commands.Command.TheVariants as cmd
use Rattle.b1_model.specs.declared.records.Call.{Call}
use Rattle.b1_model.specs.declared.version.Version.{Version}
use Rattle.b1_text_words.specs.Commands.{command_text, command_text_in, cookie_text, IsCommand}
use Rattle.b1_text_words.specs.Words.{Spells, Reads, Begins}
use Rattle.b1_text_words.specs.declared.items.Form.TheVariants.{Report}
use Rattle.b1_report_lines.specs.declared.unread.Stop.{Stop}
use Rattle.b1_report_lines.specs.declared.unread.Stop.TheVariants.{Cut, Broken}
use Rattle.b1_report_lines.specs.declared.unread.Unread.{Unread}
use Rattle.b1_report_lines.specs.declared.unread.Unread.TheVariants.{Stopped, Memory}
use Rattle.b1_report_lines.specs.Answers.{answer_text}
use Rattle.b1_report_lines.specs.Forms.{answer_at}
use Rattle.b1_report_lines.specs.Lines.{IsCall, call_line, call_words, TellsCall, TellsCallStop}
use Rattle.b1_report_lines.specs.Reading.{Read, Gives, behind, split_once, strip}
use Rattle.b1_report_lines.proofs.Exact.{IsExact, behind_exact, strip_ok, strip_again, strip_cut, strip_stable}
use Rattle.b1_report_lines.proofs.ExactAnswers.{IsFit, answer_exact}
use Rattle.b1_report_lines.proofs.FreeCommands.{command_before_equals}
use Rattle.b1_report_lines.proofs.Splitting.{Parts, IsFree, free_tail, free_append, split_found, split_is, split_more}

-- ---- lists that end alike

pub same_front : (x y : List ℕ) → x ++ 32 ∷ [] ≡ y ++ 32 ∷ [] → x ≡ y
same_front [] [] e = refl
same_front [] (y ∷ []) e = absurd cc
same_front [] (y ∷ (z ∷ zs)) e = absurd cc
same_front (x ∷ []) [] e = absurd cc
same_front (x ∷ (w ∷ ws)) [] e = absurd cc
same_front (x ∷ xs) (y ∷ ys) e =
    let first : x ≡ y = cc in
    let others : xs ++ 32 ∷ [] ≡ ys ++ 32 ∷ [] = cc in
    ap (λ (n : ℕ). n ∷ xs) first ∙ ap (λ (r : List ℕ). y ∷ r) (same_front xs ys others)

-- the front of what ends in a space
abbrev FrontOf : List ℕ → List ℕ → Type 0
FrontOf x b = ((u : List ℕ) × (x ≡ b ++ u)) ⊎ (b ≡ x ++ 32 ∷ [])

front_of : (x b u : List ℕ) → x ++ 32 ∷ [] ≡ b ++ u → FrontOf x b
front_of x [] u e = inl (x, refl)
front_of [] (b ∷ []) u e = let first : 32 ≡ b = cc in inr (ap (λ (n : ℕ). n ∷ []) (sym first))
front_of [] (b ∷ (c ∷ cs)) u e = absurd cc
front_of (x ∷ xs) (b ∷ bs) u e =
    let first : x ≡ b = cc in
    let others : xs ++ 32 ∷ [] ≡ bs ++ u = cc in
    elim (front_of xs bs u others) [
      | inl k ↦ inl (k.0, ap (λ (n : ℕ). n ∷ xs) first ∙ ap (λ (r : List ℕ). b ∷ r) k.1)
      | inr k ↦ inr (ap (λ (n : ℕ). n ∷ bs) (sym first) ∙ ap (λ (r : List ℕ). x ∷ r) k)
    ]

-- what has no mark, at the front of what has one, is at the front of what stands before it
pub free_front : (mark : ℕ) (a x b y : List ℕ) → IsFree mark b → a ++ mark ∷ x ≡ b ++ y → (t : List ℕ) × (a ≡ b ++ t)
free_front mark a x [] y h e = (a, refl)
free_front mark [] x (b ∷ bs) y h e =
    let t = free_tail mark b bs h in
    let first : mark ≡ b = cc in
    let is : eqb b mark ≡ true = eq-eqb b mark (sym first) in
    absurd cc
free_front mark (c ∷ cs) x (b ∷ bs) y h e =
    let t = free_tail mark b bs h in
    let first : c ≡ b = cc in
    let others : cs ++ mark ∷ x ≡ bs ++ y = cc in
    let more = free_front mark cs x bs y t.1 others in
    (more.0, ap (λ (n : ℕ). n ∷ cs) first ∙ ap (λ (r : List ℕ). b ∷ r) more.1)

-- ---- a call's line is cut at its equals sign

spaced_line : (c : Call) → (command_text c.command ++ 32 ∷ []) ++ 61 ∷ (32 ∷ answer_text c.command c.answer) ≡ call_words c
spaced_line c = append_assoc (command_text c.command) (32 ∷ []) (61 ∷ (32 ∷ answer_text c.command c.answer)) ∙ sym (append_assoc (command_text c.command) (codes " = ") (answer_text c.command c.answer))

front_free : (version : Version) (c : Call) → IsCall version c → IsFree 61 (command_text c.command ++ 32 ∷ [])
front_free version c h = free_append 61 (command_text c.command) (32 ∷ []) (command_before_equals version c.command h.command) refl

line_cut : (version : Version) (c : Call) → IsCall version c → split_once 61 (call_words c) ≡ Some (command_text c.command ++ 32 ∷ [], 32 ∷ answer_text c.command c.answer)
line_cut version c h = ap (split_once 61) (sym (spaced_line c)) ∙ split_found 61 (command_text c.command ++ 32 ∷ []) (32 ∷ answer_text c.command c.answer) (front_free version c h)

some_parts : (x y : Parts) → Some x ≡ Some y → x ≡ y
some_parts x y e = cc

-- where the bytes are cut, the line is cut alike
pub parts_of : (version : Version) (bytes t : List ℕ) (parts : Parts) (c : Call) → split_once 61 bytes ≡ Some parts → IsCall version c → bytes ++ t ≡ call_words c
    → (parts.0 ≡ command_text c.command ++ 32 ∷ []) × (parts.1 ++ t ≡ 32 ∷ answer_text c.command c.answer)
parts_of version bytes t parts c cut h e =
    let same = some_parts (parts.0, parts.1 ++ t) (command_text c.command ++ 32 ∷ [], 32 ∷ answer_text c.command c.answer) (sym (split_more 61 bytes t parts cut) ∙ ap (split_once 61) e ∙ line_cut version c h) in
    (ap (λ (p : Parts). p.0) same, ap (λ (p : Parts). p.1) same)

no_parts : (version : Version) (bytes t : List ℕ) (c : Call) → IsFree 61 bytes → IsCall version c → bytes ++ t ≡ call_words c → FrontOf (command_text c.command) bytes
no_parts version bytes t c free h e =
    let f = free_front 61 (command_text c.command ++ 32 ∷ []) (32 ∷ answer_text c.command c.answer) bytes t free (spaced_line c ∙ sym e) in
    front_of (command_text c.command) bytes f.0 f.1

-- ---- a call whose front is no command

pub not_spaced : (version : Version) (bytes : List ℕ) (parts : Parts) → split_once 61 bytes ≡ Some parts → ((word : List ℕ) → ¬ (parts.0 ≡ word ++ 32 ∷ [])) → TellsCallStop version None bytes (Stopped Broken)
not_spaced version bytes parts cut none = λ t c h e. none (command_text c.command) (parts_of version bytes t parts c cut h e).0

abbrev IsNoCommand : Version → List ℕ → Type 0
IsNoCommand version word = (c : Command) → IsCommand Report version c → ¬ (word ≡ command_text c)

pub none_read : (version : Version) (word : List ℕ) → Reads (command_text_in Report) (IsCommand Report version) word None → IsNoCommand version word
none_read version word r c h e = let found : None ≡ Some c = r.whole c h e in absurd_some found where
  absurd_some : {X : Type 0} {x : X} → None ≡ Some x → ⊥
  absurd_some k = cc

pub no_command : (version : Version) (bytes word : List ℕ) (parts : Parts) → split_once 61 bytes ≡ Some parts → parts.0 ≡ word ++ 32 ∷ [] → IsNoCommand version word → TellsCallStop version None bytes (Stopped Broken)
no_command version bytes word parts cut spaced none = λ t c h e. none c.command h.command (same_front word (command_text c.command) (sym spaced ∙ (parts_of version bytes t parts c cut h e).0))

-- ---- a call whose command is read

module _ (version : Version) (bytes word : List ℕ) (parts : Parts) (command : Command) (cut : split_once 61 bytes ≡ Some parts) (spaced : parts.0 ≡ word ++ 32 ∷ [])
    (reads : Reads (command_text_in Report) (IsCommand Report version) word (Some command)) where
  abbrev rest_text : Answer → List ℕ
  rest_text answer = (32 ∷ []) ++ answer_text command answer

  abbrev rest_at : List ℕ → Read Answer
  rest_at right = behind (32 ∷ []) (answer_at command) right

  rest_exact : IsExact rest_at rest_text (IsFit command)
  rest_exact = behind_exact (32 ∷ []) (answer_at command) (answer_text command) (IsFit command) (answer_exact command)

  same_command : (x y : Command) → Some x ≡ Some y → x ≡ y
  same_command x y e = cc

  -- a call with this front has this command
  the_command : (t : List ℕ) (c : Call) → IsCall version c → bytes ++ t ≡ call_words c → c.command ≡ command
  the_command t c h e = sym (same_command command c.command (reads.whole c.command h.command (same_front word (command_text c.command) (sym spaced ∙ (parts_of version bytes t parts c cut h e).0))))

  the_rest : (t : List ℕ) (c : Call) → IsCall version c → bytes ++ t ≡ call_words c → (parts.1 ++ t ≡ rest_text c.answer) × IsFit command c.answer
  the_rest t c h e =
      let is : c.command ≡ command = the_command t c h e in
      (subst (λ (x : Command). parts.1 ++ t ≡ (32 ∷ []) ++ answer_text x c.answer) is (parts_of version bytes t parts c cut h e).1, subst (λ (x : Command). IsFit x c.answer) is (h.can, h.fields))

  -- what follows the equals sign makes a call's line
  line_of : (t : List ℕ) (answer : Answer) → parts.1 ++ t ≡ rest_text answer → bytes ++ t ≡ call_words (record { command = command; answer = answer })
  line_of t answer e =
      ap (λ (x : List ℕ). x ++ t) ((split_is 61 bytes parts cut).0) ∙ append_assoc parts.0 (61 ∷ parts.1) t
      ∙ ap (λ (x : List ℕ). parts.0 ++ 61 ∷ x) e ∙ ap (λ (x : List ℕ). x ++ 61 ∷ rest_text answer) (spaced ∙ ap (λ (x : List ℕ). x ++ 32 ∷ []) reads.found.1)
      ∙ spaced_line (record { command = command; answer = answer })

  call_is : (answer : Answer) → IsFit command answer → IsCall version (record { command = command; answer = answer })
  call_is answer h = record { command = reads.found.0; can = h.0; fields = h.1 }

  whole : (c : Call) → IsCall version c → bytes ≡ call_words c → rest_at parts.1 ≡ Ok c.answer
  whole c h e =
      let r = the_rest [] c h (append-nil bytes ∙ e) in
      ap rest_at (sym (append-nil parts.1) ∙ r.0) ∙ rest_exact.again c.answer r.1

  read_twice : (x y : Answer) → rest_at parts.1 ≡ Ok x → rest_at parts.1 ≡ Ok y → y ≡ x
  read_twice x y e k = cc

  not_ok : (stop : Stop) (c : Call) → rest_at parts.1 ≡ Err stop → IsCall version c → bytes ≡ call_words c → ⊥
  not_ok stop c e h k = let r : rest_at parts.1 ≡ Ok c.answer = whole c h k in cc

  not_more : (t : List ℕ) (c : Call) → rest_at parts.1 ≡ Err Broken → IsCall version c → bytes ++ t ≡ call_words c → ⊥
  not_more t c e h k =
      let r = the_rest t c h k in
      let ok : rest_at (parts.1 ++ t) ≡ Ok c.answer = ap rest_at r.0 ∙ rest_exact.again c.answer r.1 in
      let broken : rest_at (parts.1 ++ t) ≡ Err Broken = rest_exact.stable parts.1 t e in
      cc

  call_from : (c : Call) → c.command ≡ command → record { command = command; answer = c.answer } ≡ c
  call_from c e = ap (λ (x : Command). record { command = x; answer = c.answer }) (sym e)

  -- the only call
  found : (c : Call) → c.command ≡ command → rest_at parts.1 ≡ Ok c.answer → TellsCall version None bytes (Ok c)
  found c is e =
      let t = rest_exact.takes parts.1 c.answer e in
      let line : bytes ≡ call_words c = sym (append-nil bytes) ∙ line_of [] c.answer (append-nil parts.1 ∙ t.0) ∙ ap call_words (call_from c is) in
      let ok : IsCall version c = subst (IsCall version) (call_from c is) (call_is c.answer t.1) in (
        (ok, line),
        λ other h k.
            let command' : other.command ≡ c.command = the_command [] other h (append-nil bytes ∙ k) ∙ sym is in
            let answer' : other.answer ≡ c.answer = read_twice c.answer other.answer e (whole other h k) in
            ap (λ (x : Command). record { command = x; answer = other.answer }) command' ∙ ap (λ (x : Answer). record { command = c.command; answer = x }) answer',
      )

  pub with_answer : (r : Result Call Unread) → Gives (λ call. call.answer) r (rest_at parts.1) → IfOk r (λ call. call.command ≡ command) → TellsCall version None bytes r
  with_answer (Ok c) h k = found c k h
  with_answer (Err Memory) h k = tt
  with_answer (Err (Stopped Cut)) h k =
      let c = rest_exact.cut parts.1 h in
      ((c.0, record { command = command; answer = c.1 }, (call_is c.1 c.2.1, line_of c.0 c.1 c.2.0)), λ other is e. not_ok Cut other h is e)
  with_answer (Err (Stopped Broken)) h k = λ t other is e. not_more t other h is e

-- ---- bytes without an equals sign

abbrev BeginCommand : Version → List ℕ → Type 0
BeginCommand version bytes = Begins (Spells (command_text_in Report) (IsCommand Report version)) bytes

abbrev with_done : Command → Call
with_done command = record { command = command; answer = ans.Done }

done_is : (version : Version) (command : Command) → IsCommand Report version command → IsCall version (with_done command)
done_is version command h = record { command = h; can = tt; fields = tt }

-- a line has its equals sign
not_whole : (version : Version) (bytes : List ℕ) (c : Call) → IsFree 61 bytes → IsCall version c → bytes ≡ call_words c → ⊥
not_whole version bytes c free h e =
    let some : split_once 61 bytes ≡ Some (command_text c.command ++ 32 ∷ [], 32 ∷ answer_text c.command c.answer) = ap (split_once 61) e ∙ line_cut version c h in
    absurd_some (sym free ∙ some) where
      absurd_some : {X : Type 0} {x : X} → None ≡ Some x → ⊥
      absurd_some k = cc

pub command_begins : (version : Version) (bytes : List ℕ) → IsFree 61 bytes → BeginCommand version bytes → TellsCallStop version None bytes (Stopped Cut)
command_begins version bytes free b =
    let command : Command = b.whole.value in
    let line : bytes ++ (b.rest ++ (codes " = " ++ answer_text command ans.Done)) ≡ call_words (with_done command)
    = sym (append_assoc bytes b.rest (codes " = " ++ answer_text command ans.Done)) ∙ ap (λ (x : List ℕ). x ++ (codes " = " ++ answer_text command ans.Done)) b.whole.same
    ∙ sym (append_assoc (command_text command) (codes " = ") (answer_text command ans.Done)) in
    ((b.rest ++ (codes " = " ++ answer_text command ans.Done), with_done command, (done_is version command b.whole.is_of, line)), λ c h e. not_whole version bytes c free h e)

pub command_ended : (version : Version) (bytes word : List ℕ) (command : Command) → IsFree 61 bytes → bytes ≡ word ++ 32 ∷ [] → Reads (command_text_in Report) (IsCommand Report version) word (Some command) → TellsCallStop version None bytes (Stopped Cut)
command_ended version bytes word command free spaced r =
    let line : bytes ++ (61 ∷ (32 ∷ answer_text command ans.Done)) ≡ call_words (with_done command)
    = ap (λ (x : List ℕ). x ++ (61 ∷ (32 ∷ answer_text command ans.Done))) (spaced ∙ ap (λ (x : List ℕ). x ++ 32 ∷ []) r.found.1) ∙ spaced_line (with_done command) in
    ((61 ∷ (32 ∷ answer_text command ans.Done), with_done command, (done_is version command r.found.0, line)), λ c h e. not_whole version bytes c free h e)

-- neither in a command nor behind one
pub no_front : (version : Version) (bytes : List ℕ) → IsFree 61 bytes → (BeginCommand version bytes → ⊥) → ((c : Command) → IsCommand Report version c → ¬ (bytes ≡ command_text c ++ 32 ∷ [])) → TellsCallStop version None bytes (Stopped Broken)
no_front version bytes free none ended = λ t c h e. elim (no_parts version bytes t c free h e) [
  | inl k ↦ none (record { rest = k.0; whole = record { value = c.command; is_of = h.command; same = sym k.1 } })
  | inr k ↦ ended c.command h.command k
]

pub not_behind : (version : Version) (bytes word : List ℕ) → bytes ≡ word ++ 32 ∷ [] → IsNoCommand version word → (c : Command) → IsCommand Report version c → bytes ≡ command_text c ++ 32 ∷ [] → ⊥
not_behind version bytes word spaced none c h e = none c h (same_front word (command_text c) (sym spaced ∙ e))

pub reads_as : (version : Version) (word : List ℕ) (r : Option Command) (found : Option Command) → r ≡ found → Reads (command_text_in Report) (IsCommand Report version) word r → Reads (command_text_in Report) (IsCommand Report version) word found
reads_as version word r _ e h = subst (λ (x : Option Command). Reads (command_text_in Report) (IsCommand Report version) word x) e h

pub not_true : (b : Bool) → b ≡ true → b ≡ false → ⊥
not_true b e k = cc

-- ---- a call behind its cookie

same_rest : (w x y : List ℕ) → w ++ x ≡ w ++ y → x ≡ y
same_rest [] x y e = e
same_rest (b ∷ bs) x y e = let others : bs ++ x ≡ bs ++ y = cc in same_rest bs x y others

module _ (version : Version) (cookie : Option ℕ) where
  abbrev front : List ℕ
  front = cookie_text cookie

  -- what stands behind the cookie
  behind_front : (bytes rest t : List ℕ) (c : Call) → strip front bytes ≡ Ok rest → bytes ++ t ≡ call_line cookie c → rest ++ t ≡ call_words c
  behind_front bytes rest t c e l =
      same_rest front (rest ++ t) (call_words c) (sym (append_assoc front rest t) ∙ ap (λ (x : List ℕ). x ++ t) (sym (strip_ok front bytes rest e)) ∙ l)

  in_front : (bytes rest t : List ℕ) (c : Call) → strip front bytes ≡ Ok rest → rest ++ t ≡ call_words c → bytes ++ t ≡ call_line cookie c
  in_front bytes rest t c e l = ap (λ (x : List ℕ). x ++ t) (strip_ok front bytes rest e) ∙ append_assoc front rest t ∙ ap (λ (x : List ℕ). front ++ x) l

  whole_behind : (bytes rest : List ℕ) (c : Call) → strip front bytes ≡ Ok rest → bytes ≡ call_line cookie c → rest ≡ call_words c
  whole_behind bytes rest c e l = sym (append-nil rest) ∙ behind_front bytes rest [] c e (append-nil bytes ∙ l)

  pub behind_cookie : (bytes rest : List ℕ) (r : Result Call Unread) → strip front bytes ≡ Ok rest → TellsCall version None rest r → TellsCall version cookie bytes r
  behind_cookie bytes rest (Ok c) e h =
      ((h.0.0, sym (append-nil bytes) ∙ in_front bytes rest [] c e (append-nil rest ∙ h.0.1)), λ other k l. h.1 other k (whole_behind bytes rest other e l))
  behind_cookie bytes rest (Err Memory) e h = tt
  behind_cookie bytes rest (Err (Stopped Cut)) e h =
      ((h.0.0, h.0.1, (h.0.2.0, in_front bytes rest h.0.0 h.0.1 e h.0.2.1)), λ c k l. h.1 c k (whole_behind bytes rest c e l))
  behind_cookie bytes rest (Err (Stopped Broken)) e h = λ t c k l. h t c k (behind_front bytes rest t c e l)

  -- a line begins with its cookie
  is_behind : (bytes : List ℕ) (stop : Stop) (c : Call) → strip front bytes ≡ Err stop → bytes ≡ call_line cookie c → ⊥
  is_behind bytes stop c e l =
      let found : strip front bytes ≡ Ok (call_words c) = ap (strip front) l ∙ strip_again front (call_words c) in
      cc

  cookie_cut : (bytes : List ℕ) → strip front bytes ≡ Err Cut → TellsCallStop version cookie bytes (Stopped Cut)
  cookie_cut bytes e =
      let rest = strip_cut front bytes e in
      let some : Call = with_done cmd.Recv in (
        (rest.0 ++ call_words some, some, (done_is version cmd.Recv tt, sym (append_assoc bytes rest.0 (call_words some)) ∙ ap (λ (x : List ℕ). x ++ call_words some) rest.1)),
        λ c k l. is_behind bytes Cut c e l,
      )

  cookie_broken : (bytes : List ℕ) → strip front bytes ≡ Err Broken → TellsCallStop version cookie bytes (Stopped Broken)
  cookie_broken bytes e = λ t c k l. is_behind (bytes ++ t) Broken c (strip_stable front bytes t e) l

  pub cookie_stops : (bytes : List ℕ) (stop : Stop) → strip front bytes ≡ Err stop → TellsCallStop version cookie bytes (Stopped stop)
  cookie_stops bytes Cut e = cookie_cut bytes e
  cookie_stops bytes Broken e = cookie_broken bytes e
