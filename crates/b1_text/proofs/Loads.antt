-- The bytes that begin what stands behind the flag of a SEND.
use Rattle.std.proofs.Common.{◌≡◌, ◌↔◌, ℕ, ◌-◌, ◌*◌, ◌≤◌, Bool, false, List, [], ◌∷◌, ◌++◌, length, Option, Some, None, codes, IsTrue, refl, sym, subst, ◌∙◌, arith}
use Rattle.std.specs.List.{flat_map, AllByRecursion}
use Rattle.b1_records.specs.Spelling.{Is64, rounded, most_numbers, most_bytes}
use Rattle.b1_text_words.specs.declared.items.Form.TheVariants.{Script as in_script}
use Rattle.b1_text_words.specs.declared.items.Item.TheVariants.{Handle}
use Rattle.b1_text_words.specs.Items.{AreItems, AreBytes}
use Rattle.b1_text_words.specs.Numbers.{script_handle_text, list_text, hex_text}
use Rattle.b1_text_words.specs.Words.{Spells, Reads, Begins, IsFree}
use Rattle.b1_text_words.proofs.Languages.{free_append}
use Rattle.b1_text.specs.Nexts.{AreHandles, IsPayload, IsCargo, IsLoad, data_text, cargo_text, with_text, load_text}
use Rattle.b1_text.proofs.Cuts.{handle_free}
use Rattle.b1_text.proofs.Begins.{Halves, halves_none, halves_some, no_halves, never, same_test}

items_free : (ns : List ℕ) → AllByRecursion Is64 ns → IsFree 32 (flat_map (λ n. codes "," ++ script_handle_text n) ns)
items_free [] h = tt
items_free (n ∷ ns) h = (omega arith, free_append 32 (script_handle_text n) (flat_map (λ m. codes "," ++ script_handle_text m) ns) (handle_free n h.0) (items_free ns h.1))

pub list_free : (ns : List ℕ) → AllByRecursion Is64 ns → IsFree 32 (list_text script_handle_text ns)
list_free [] h = (omega arith, tt)
list_free (n ∷ ns) h = free_append 32 (script_handle_text n) (flat_map (λ m. codes "," ++ script_handle_text m) ns) (handle_free n h.0) (items_free ns h.1)

-- how many there are at most in so many bytes
abbrev pub HandlesFit : ℕ → ℕ → Type 0
HandlesFit room most = (n : ℕ) → n ≤ most ↔ ((n ≤ most_numbers) × (8 * n ≤ room))

abbrev pub BytesFit : ℕ → ℕ → Type 0
BytesFit room most = (n : ℕ) → n ≤ most ↔ ((n ≤ most_bytes) × (rounded n ≤ room))

handles_of : (room most : ℕ) (ns : List ℕ) → HandlesFit room most → AreItems (Handle in_script) most ns → AreHandles room ns
handles_of room most ns fit is = let h = (fit (length ns)).0 is.few in record { items = is.items; few = h.0; fits = h.1 }

items_of : (room most : ℕ) (ns : List ℕ) → HandlesFit room most → AreHandles room ns → AreItems (Handle in_script) most ns
items_of room most ns fit is = record { items = is.items; few = (fit (length ns)).1 (is.few, is.fits) }

pub no_payload : (room : ℕ) → IsPayload room []
no_payload room = record { items = tt; few = omega arith; fits = omega arith }

no_handles : (room : ℕ) → AreHandles room []
no_handles room = record { items = tt; few = omega arith; fits = omega arith }

pub no_cargo : (room : ℕ) → IsCargo room ([], [])
no_cargo room = record { handles = no_handles room; payload = no_payload (room - 8 * length {A = ℕ} []) }

pub no_load : (room : ℕ) → IsLoad room ([], ([], []))
no_load room = record { to = no_handles room; cargo = no_cargo (room - 8 * length {A = ℕ} []) }

pub bytes_test : (room most : ℕ) (line : List ℕ) (r : Bool) → BytesFit room most → IsTrue r ↔ Begins (Spells hex_text (AreBytes most)) line → IsTrue r ↔ Begins (Spells hex_text (IsPayload room)) line
bytes_test room most line r fit h =
    same_test hex_text (AreBytes most) (IsPayload room) line r
    (λ bs is. let k = (fit (length bs)).0 is.few in record { items = is.items; few = k.0; fits = k.1 })
    (λ bs is. record { items = is.items; few = (fit (length bs)).1 (is.few, is.fits) }) h

-- ---- handles, and what stands behind them

abbrev pub Handles : ℕ → List ℕ → Type 0
Handles most = AreItems (Handle in_script) most

abbrev pub cargo_halves : (room : ℕ) → Halves (list_text script_handle_text) data_text cargo_text (IsCargo room)
cargo_halves room = record { first = λ x. x.0; rest = λ x. x.1; text = λ x. refl; free = λ x is. list_free x.0 is.handles.items }

abbrev pub load_halves : (room : ℕ) → Halves (list_text script_handle_text) with_text load_text (IsLoad room)
load_halves room = record { first = λ x. x.0; rest = λ x. x.1; text = λ x. refl; free = λ x is. list_free x.0 is.to.items }

pub cargo_alone : (room most : ℕ) (line : List ℕ) (r : Bool) → HandlesFit room most → IsFree 32 line → IsTrue r ↔ Begins (Spells (list_text script_handle_text) (Handles most)) line → IsTrue r ↔ Begins (Spells cargo_text (IsCargo room)) line
cargo_alone room most line r fit plain h =
    halves_none (cargo_halves room) (Handles most) line r
    (λ x is. items_of room most x.0 fit is.handles)
    (λ ns is. ((ns, []), record { handles = handles_of room most ns fit is; payload = no_payload (room - 8 * length ns) }, refl)) plain h

pub load_alone : (room most : ℕ) (line : List ℕ) (r : Bool) → HandlesFit room most → IsFree 32 line → IsTrue r ↔ Begins (Spells (list_text script_handle_text) (Handles most)) line → IsTrue r ↔ Begins (Spells load_text (IsLoad room)) line
load_alone room most line r fit plain h =
    halves_none (load_halves room) (Handles most) line r
    (λ x is. items_of room most x.0 fit is.to)
    (λ ns is. ((ns, ([], [])), record { to = handles_of room most ns fit is; cargo = no_cargo (room - 8 * length ns) }, refl)) plain h

same_list : (word : List ℕ) (most : ℕ) (r : Option (List ℕ)) (x y : List ℕ) → Reads (list_text script_handle_text) (Handles most) word r → r ≡ Some x → Handles most y → word ≡ list_text script_handle_text y → y ≡ x
same_list word most r x y reads is of same = let both : Some x ≡ Some y = sym is ∙ reads.whole y of same in (cc)

pub cargo_known : (room most : ℕ) (line w rest : List ℕ) (x : Option (List ℕ)) (ns : List ℕ) (r : Bool) → HandlesFit room most → line ≡ w ++ 32 ∷ rest → IsFree 32 w → Reads (list_text script_handle_text) (Handles most) w x → x ≡ Some ns
    → IsTrue r ↔ Begins (Spells data_text (IsPayload (room - 8 * length ns))) rest → IsTrue r ↔ Begins (Spells cargo_text (IsCargo room)) line
cargo_known room most line w rest x ns r fit split plain reads is h =
    let found = subst (λ o. Reads (list_text script_handle_text) (Handles most) w o) is reads in
    halves_some (cargo_halves room) (IsPayload (room - 8 * length ns)) line w rest r split plain
    (λ y of same.
    let e : y.0 ≡ ns = same_list w most x ns y.0 reads is (items_of room most y.0 fit of.handles) same in
    subst (λ (m : List ℕ). IsPayload (room - 8 * length m) y.1) e of.payload)
    (λ payload of. ((ns, payload), record { handles = handles_of room most ns fit found.found.0; payload = of }, found.found.1, refl)) h

pub load_known : (room most : ℕ) (line w rest : List ℕ) (x : Option (List ℕ)) (ns : List ℕ) (r : Bool) → HandlesFit room most → line ≡ w ++ 32 ∷ rest → IsFree 32 w → Reads (list_text script_handle_text) (Handles most) w x → x ≡ Some ns
    → IsTrue r ↔ Begins (Spells with_text (IsCargo (room - 8 * length ns))) rest → IsTrue r ↔ Begins (Spells load_text (IsLoad room)) line
load_known room most line w rest x ns r fit split plain reads is h =
    let found = subst (λ o. Reads (list_text script_handle_text) (Handles most) w o) is reads in
    halves_some (load_halves room) (IsCargo (room - 8 * length ns)) line w rest r split plain
    (λ y of same.
    let e : y.0 ≡ ns = same_list w most x ns y.0 reads is (items_of room most y.0 fit of.to) same in
    subst (λ (m : List ℕ). IsCargo (room - 8 * length m) y.1) e of.cargo)
    (λ cargo of. ((ns, cargo), record { to = handles_of room most ns fit found.found.0; cargo = of }, found.found.1, refl)) h

pub cargo_none : (room most : ℕ) (line w rest : List ℕ) (x : Option (List ℕ)) → HandlesFit room most → line ≡ w ++ 32 ∷ rest → IsFree 32 w → Reads (list_text script_handle_text) (Handles most) w x → x ≡ None
    → IsTrue false ↔ Begins (Spells cargo_text (IsCargo room)) line
cargo_none room most line w rest x fit split plain reads is =
    never cargo_text (IsCargo room) line (no_halves (cargo_halves room) line w rest split plain
    (λ y of same. let both : None ≡ Some y.0 = sym is ∙ reads.whole y.0 (items_of room most y.0 fit of.handles) same in cc))

pub load_none : (room most : ℕ) (line w rest : List ℕ) (x : Option (List ℕ)) → HandlesFit room most → line ≡ w ++ 32 ∷ rest → IsFree 32 w → Reads (list_text script_handle_text) (Handles most) w x → x ≡ None
    → IsTrue false ↔ Begins (Spells load_text (IsLoad room)) line
load_none room most line w rest x fit split plain reads is =
    never load_text (IsLoad room) line (no_halves (load_halves room) line w rest split plain
    (λ y of same. let both : None ≡ Some y.0 = sym is ∙ reads.whole y.0 (items_of room most y.0 fit of.to) same in cc))

pub known_room : (room most : ℕ) (w : List ℕ) (x : Option (List ℕ)) (ns : List ℕ) → HandlesFit room most → Reads (list_text script_handle_text) (Handles most) w x → x ≡ Some ns → 8 * length ns ≤ room
known_room room most w x ns fit reads is =
    let found = subst (λ o. Reads (list_text script_handle_text) (Handles most) w o) is reads in
    ((fit (length ns)).0 found.found.0.few).1
