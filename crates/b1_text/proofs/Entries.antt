-- Commands with their cookies, as lines say them, and apart.
use Rattle.std.proofs.Common.{◌≡◌, ℕ, true, List, [], ◌∷◌, ◌++◌, length, map, Option, Some, None, refl, ap, ◌∙◌, arith}
use Rattle.std.specs.Prelude.{filter_map, zip, IfSome}
use Rattle.std.specs.List.{AllByRecursion}
use Rattle.b1_model.specs.declared.commands.Command.{Command}
use Rattle.b1_model.specs.declared.version.Version.{Version}
use Rattle.b1_model.specs.declared.version.Version.TheVariants.{One, Two}
use Rattle.b1_model.specs.Versions.{version_of}
use Rattle.b1_records.specs.Spelling.{Is64, HasNumbers}
use Rattle.b1_script.specs.Spelling.{entries_of, IsWithinOf, HasCookies, AreCookies}
use Rattle.b1_script.specs.Reading.{cookies_in, commands_in}
use Rattle.b1_script.proofs.Entries.{count_entries, cookies_back, commands_back}
use Rattle.b1_text.specs.declared.statement.Entry.{Entry}
use Rattle.b1_text.specs.Texts.{plain_entries, marked_entries, entries_said}
use Rattle.b1_text.specs.Drafts.{IsCarried, is_of, commands_said, cookies_said}

-- each command stands in a text of this version
abbrev pub AreOf : Version → List Entry → Type 0
AreOf version entries = AllByRecursion (λ (e : Entry). is_of version e.cookie ≡ true) entries

abbrev pub AllOf : Version → List (List Entry) → Type 0
AllOf version lists = AllByRecursion (AreOf version) lists

abbrev pub command_of : Entry → Command
command_of e = e.command

abbrev pub cookie_of : Entry → Option ℕ
cookie_of e = e.cookie

-- commands and cookies, with those of the entries that are left behind them, are those of all entries
pub record IsSplit (entries : List Entry) (cs : List Command) (ks : List ℕ) (left : List Entry) : Type 0 where
  pub commands : cs ++ map command_of left ≡ map command_of entries
  pub cookies : ks ++ filter_map cookie_of left ≡ filter_map cookie_of entries

-- the same of lists of them
pub record AreSplit (lists : List (List Entry)) (css : List (List Command)) (kss : List (List ℕ)) (left : List (List Entry)) : Type 0 where
  pub commands : css ++ commands_said left ≡ commands_said lists
  pub cookies : kss ++ map (λ (es : List Entry). filter_map cookie_of es) left ≡ map (λ (es : List Entry). filter_map cookie_of es) lists

-- ---- from a script's commands, and back

plain_back : (cs : List Command) → map command_of (plain_entries cs) ≡ cs
plain_back [] = refl
plain_back (c ∷ cs) = ap (λ (x : List Command). c ∷ x) (plain_back cs)

plains_back : (lists : List (List Command)) → commands_said (map plain_entries lists) ≡ lists
plains_back [] = refl
plains_back (cs ∷ lists) = rw (plain_back cs, plains_back lists) refl

marked_commands : (ps : List (ℕ × Command)) → map command_of (marked_entries ps) ≡ map (λ (p : ℕ × Command). p.1) ps
marked_commands [] = refl
marked_commands (p ∷ ps) = ap (λ (x : List Command). p.1 ∷ x) (marked_commands ps)

marked_cookies : (ps : List (ℕ × Command)) → filter_map cookie_of (marked_entries ps) ≡ map (λ (p : ℕ × Command). p.0) ps
marked_cookies [] = refl
marked_cookies (p ∷ ps) = ap (λ (x : List ℕ). p.0 ∷ x) (marked_cookies ps)

all_commands : (lists : List (List (ℕ × Command))) → commands_said (map marked_entries lists) ≡ commands_in lists
all_commands [] = refl
all_commands (ps ∷ lists) = rw (marked_commands ps, all_commands lists) refl

all_cookies : (lists : List (List (ℕ × Command))) → map (λ (es : List Entry). filter_map cookie_of es) (map marked_entries lists) ≡ cookies_in lists
all_cookies [] = refl
all_cookies (ps ∷ lists) = rw (marked_cookies ps, all_cookies lists) refl

pub commands_again : (cookies : Option (List (List ℕ))) (lists : List (List Command)) → HasCookies cookies lists → commands_said (entries_said cookies lists) ≡ lists
commands_again None lists has = plains_back lists
commands_again (Some cookies) lists has = all_commands (entries_of cookies lists) ∙ commands_back cookies lists has

pub cookies_again : (cookies : Option (List (List ℕ))) (lists : List (List Command)) → HasCookies cookies lists → cookies_said (version_of cookies) (entries_said cookies lists) ≡ cookies
cookies_again None lists has = refl
cookies_again (Some cookies) lists has = ap (λ (x : List (List ℕ)). Some x) (all_cookies (entries_of cookies lists) ∙ cookies_back cookies lists has)

plains_count : (lists : List (List Command)) → length (map plain_entries lists) ≡ length lists
plains_count [] = refl
plains_count (cs ∷ lists) = let ih = plains_count lists in omega (arith, ih)

marked_count : (lists : List (List (ℕ × Command))) → length (map marked_entries lists) ≡ length lists
marked_count [] = refl
marked_count (ps ∷ lists) = let ih = marked_count lists in omega (arith, ih)

pub said_count : (cookies : Option (List (List ℕ))) (lists : List (List Command)) → HasCookies cookies lists → length (entries_said cookies lists) ≡ length lists
said_count None lists has = plains_count lists
said_count (Some cookies) lists has = marked_count (entries_of cookies lists) ∙ count_entries cookies lists has

plain_of : (cs : List Command) → AreOf One (plain_entries cs)
plain_of [] = tt
plain_of (c ∷ cs) = (refl, plain_of cs)

plains_of : (lists : List (List Command)) → AllOf One (map plain_entries lists)
plains_of [] = tt
plains_of (cs ∷ lists) = (plain_of cs, plains_of lists)

marked_of : (ps : List (ℕ × Command)) → AreOf Two (marked_entries ps)
marked_of [] = tt
marked_of (p ∷ ps) = (refl, marked_of ps)

all_marked_of : (lists : List (List (ℕ × Command))) → AllOf Two (map marked_entries lists)
all_marked_of [] = tt
all_marked_of (ps ∷ lists) = (marked_of ps, all_marked_of lists)

pub said_of : (cookies : Option (List (List ℕ))) (lists : List (List Command)) → AllOf (version_of cookies) (entries_said cookies lists)
said_of None lists = plains_of lists
said_of (Some cookies) lists = all_marked_of (entries_of cookies lists)

-- ---- each can be carried

plain_carried : (cs : List Command) → AllByRecursion (IsWithinOf One) cs → AllByRecursion HasNumbers cs → AllByRecursion IsCarried (plain_entries cs)
plain_carried [] h k = tt
plain_carried (c ∷ cs) h k = (record { within = h.0; numbers = k.0; cookie = tt }, plain_carried cs h.1 k.1)

plains_carried : (lists : List (List Command)) → AllByRecursion (AllByRecursion (IsWithinOf One)) lists → AllByRecursion (AllByRecursion HasNumbers) lists → AllByRecursion (AllByRecursion IsCarried) (map plain_entries lists)
plains_carried [] h k = tt
plains_carried (cs ∷ lists) h k = (plain_carried cs h.0 k.0, plains_carried lists h.1 k.1)

marked_carried : (ks : List ℕ) (cs : List Command) → AllByRecursion (IsWithinOf Two) cs → AllByRecursion HasNumbers cs → AllByRecursion Is64 ks → AllByRecursion IsCarried (marked_entries (zip ks cs))
marked_carried [] cs h k m = tt
marked_carried (n ∷ ks) [] h k m = tt
marked_carried (n ∷ ks) (c ∷ cs) h k m = (record { within = h.0; numbers = k.0; cookie = m.0 }, marked_carried ks cs h.1 k.1 m.1)

all_marked_carried : (cookies : List (List ℕ)) (lists : List (List Command)) → AllByRecursion (AllByRecursion (IsWithinOf Two)) lists → AllByRecursion (AllByRecursion HasNumbers) lists → AllByRecursion (AllByRecursion Is64) cookies
    → AllByRecursion (AllByRecursion IsCarried) (map marked_entries (entries_of cookies lists))
all_marked_carried [] lists h k m = tt
all_marked_carried (ks ∷ cookies) [] h k m = tt
all_marked_carried (ks ∷ cookies) (cs ∷ lists) h k m = (marked_carried ks cs h.0 k.0 m.0, all_marked_carried cookies lists h.1 k.1 m.1)

pub said_carried : (cookies : Option (List (List ℕ))) (lists : List (List Command)) → AllByRecursion (AllByRecursion (IsWithinOf (version_of cookies))) lists → AllByRecursion (AllByRecursion HasNumbers) lists → AreCookies cookies
    → AllByRecursion (AllByRecursion IsCarried) (entries_said cookies lists)
said_carried None lists h k m = plains_carried lists h k
said_carried (Some cookies) lists h k m = all_marked_carried cookies lists h k m

-- ---- from lines of one version, and back

pub version_said : (version : Version) (lists : List (List Entry)) → version_of (cookies_said version lists) ≡ version
version_said One lists = refl
version_said Two lists = refl

pub commands_count : (lists : List (List Entry)) → length (commands_said lists) ≡ length lists
commands_count [] = refl
commands_count (es ∷ lists) = let ih = commands_count lists in omega (arith, ih)

abbrev entry : Option ℕ → Command → Entry
entry k c = record { cookie = k; command = c }

plain_one : (k : Option ℕ) (c : Command) → is_of One k ≡ true → entry None c ≡ entry k c
plain_one None c h = refl
plain_one (Some k) c h = absurd cc

plain_same : (es : List Entry) → AreOf One es → plain_entries (map command_of es) ≡ es
plain_same [] h = refl
plain_same (e ∷ es) h = rw (plain_same es h.1) (ap (λ (x : Entry). x ∷ es) (plain_one e.cookie e.command h.0))

plains_same : (lists : List (List Entry)) → AllOf One lists → map plain_entries (commands_said lists) ≡ lists
plains_same [] h = refl
plains_same (es ∷ lists) h = rw (plain_same es h.0, plains_same lists h.1) refl

-- as many cookies as commands
cookie_count : (es : List Entry) → AreOf Two es → length (filter_map cookie_of es) ≡ length (map command_of es)
cookie_count [] h = refl
cookie_count (e ∷ es) h = one e.cookie h.0 (cookie_count es h.1) where
  one : (k : Option ℕ) → is_of Two k ≡ true → length (filter_map cookie_of es) ≡ length (map command_of es) → length (filter_map cookie_of (entry k e.command ∷ es)) ≡ length (map command_of (e ∷ es))
  one None k ih = absurd cc
  one (Some n) k ih = omega (arith, ih)

cookie_counts : (lists : List (List Entry)) → AllOf Two lists → map length (map (λ (es : List Entry). filter_map cookie_of es) lists) ≡ map length (commands_said lists)
cookie_counts [] h = refl
cookie_counts (es ∷ lists) h = rw (cookie_count es h.0, cookie_counts lists h.1) refl

pub has_cookies : (version : Version) (lists : List (List Entry)) → AllOf version lists → HasCookies (cookies_said version lists) (commands_said lists)
has_cookies One lists h = tt
has_cookies Two lists h = cookie_counts lists h

marked_same : (es : List Entry) → AreOf Two es → marked_entries (zip (filter_map cookie_of es) (map command_of es)) ≡ es
marked_same [] h = refl
marked_same (e ∷ es) h = one e.cookie h.0 (marked_same es h.1) where
  one : (k : Option ℕ) → is_of Two k ≡ true → marked_entries (zip (filter_map cookie_of es) (map command_of es)) ≡ es → marked_entries (zip (filter_map cookie_of (entry k e.command ∷ es)) (map command_of (entry k e.command ∷ es))) ≡ entry k e.command ∷ es
  one None k ih = absurd cc
  one (Some n) k ih = ap (λ (x : List Entry). entry (Some n) e.command ∷ x) ih

all_marked_same : (lists : List (List Entry)) → AllOf Two lists → map marked_entries (entries_of (map (λ (es : List Entry). filter_map cookie_of es) lists) (commands_said lists)) ≡ lists
all_marked_same [] h = refl
all_marked_same (es ∷ lists) h = rw (marked_same es h.0, all_marked_same lists h.1) refl

pub said_again : (version : Version) (lists : List (List Entry)) → AllOf version lists → entries_said (cookies_said version lists) (commands_said lists) ≡ lists
said_again One lists h = plains_same lists h
said_again Two lists h = all_marked_same lists h

-- ---- what can be carried

of_within : (version : Version) (k : Option ℕ) (c : Command) → is_of version k ≡ true → IsWithinOf (version_of k) c → IsWithinOf version c
of_within One None c h w = w
of_within One (Some n) c h w = absurd cc
of_within Two None c h w = absurd cc
of_within Two (Some n) c h w = w

each_within : (version : Version) (es : List Entry) → AreOf version es → AllByRecursion IsCarried es → AllByRecursion (IsWithinOf version) (map command_of es)
each_within version [] h k = tt
each_within version (e ∷ es) h k = (of_within version e.cookie e.command h.0 k.0.within, each_within version es h.1 k.1)

pub all_within : (version : Version) (lists : List (List Entry)) → AllOf version lists → AllByRecursion (AllByRecursion IsCarried) lists → AllByRecursion (AllByRecursion (IsWithinOf version)) (commands_said lists)
all_within version [] h k = tt
all_within version (es ∷ lists) h k = (each_within version es h.0 k.0, all_within version lists h.1 k.1)

each_number : (es : List Entry) → AllByRecursion IsCarried es → AllByRecursion HasNumbers (map command_of es)
each_number [] k = tt
each_number (e ∷ es) k = (k.0.numbers, each_number es k.1)

pub all_numbers : (lists : List (List Entry)) → AllByRecursion (AllByRecursion IsCarried) lists → AllByRecursion (AllByRecursion HasNumbers) (commands_said lists)
all_numbers [] k = tt
all_numbers (es ∷ lists) k = (each_number es k.0, all_numbers lists k.1)

each_cookie : (es : List Entry) → AllByRecursion IsCarried es → AllByRecursion Is64 (filter_map cookie_of es)
each_cookie [] k = tt
each_cookie (e ∷ es) k = one e.cookie k.0.cookie (each_cookie es k.1) where
  one : (n : Option ℕ) → IfSome n Is64 → AllByRecursion Is64 (filter_map cookie_of es) → AllByRecursion Is64 (filter_map cookie_of (entry n e.command ∷ es))
  one None h ih = ih
  one (Some n) h ih = (h, ih)

each_list : (lists : List (List Entry)) → AllByRecursion (AllByRecursion IsCarried) lists → AllByRecursion (AllByRecursion Is64) (map (λ (es : List Entry). filter_map cookie_of es) lists)
each_list [] k = tt
each_list (es ∷ lists) k = (each_cookie es k.0, each_list lists k.1)

pub are_cookies : (version : Version) (lists : List (List Entry)) → AllByRecursion (AllByRecursion IsCarried) lists → AreCookies (cookies_said version lists)
are_cookies One lists k = tt
are_cookies Two lists k = each_list lists k
