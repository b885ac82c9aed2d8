-- The lines with which a script can go on, kind by kind.
use Rattle.std.proofs.Common.{◌≡◌, ◌↔◌, ℕ, ◌+◌, ◌-◌, ◌*◌, ◌/◌, ◌<◌, ◌≤◌, Bool, true, false, ◌&&◌, cond, eqb, ltb, List, [], ◌∷◌, ◌++◌, length, Option, Some, None, IsSome, codes, IsTrue, refl, sym, ap, ◌∙◌, arith, eq-eqb}
use Rattle.std.specs.Fmt.{decimal}
use Rattle.std.specs.List.{list_all, list_any, AllByRecursion}
use Rattle.std.specs.Prelude.{unwrap_or}
use Rattle.std.specs.Option.{option_map}
use Rattle.std.proofs.lemmas.Bool.{lt-ltb}
use Rattle.std.proofs.lemmas.List.{length-append}
use Rattle.b1_model.specs.declared.limits.TheConstants.{MOST_PEERS, MOST_SCRIPT}
use Rattle.b1_model.specs.declared.naming.Opening.{Opening}
use Rattle.b1_model.specs.declared.naming.Wire.{Wire}
use Rattle.b1_model.specs.declared.version.Version.{Version}
use Rattle.b1_model.specs.declared.version.Version.TheVariants.{One, Two}
use Rattle.b1_model.specs.Opening.{from_owner, with_held, after_wire, is_same}
use Rattle.b1_records.specs.Spelling.{Is32, Is64}
use Rattle.b1_script.specs.Spelling.{IsSpec, most_len, most_peers}
use Rattle.b1_script.specs.Reading.{is_first_clock}
use Rattle.b1_script.proofs.Laws.{most_under}
use Rattle.b1_text_words.specs.declared.items.Item.TheVariants.{UpTo}
use Rattle.b1_text_words.specs.Items.{AreItems}
use Rattle.b1_text_words.specs.Numbers.{list_text}
use Rattle.b1_text_words.specs.Words.{Spells, Begins}
use Rattle.b1_text.specs.declared.draft.Draft.{Draft}
use Rattle.b1_text.specs.declared.draft.Draft.TheVariants.{Empty, Named, Opened, Listing}
use Rattle.b1_text.specs.declared.statement.Entry.{Entry}
use Rattle.b1_text.specs.declared.statement.Statement.{Statement}
use Rattle.b1_text.specs.declared.statement.Statement.TheVariants as says
use Rattle.b1_text.specs.Texts.{name_text, statement_text, peer_text}
use Rattle.b1_text.specs.Drafts.{HasWireFields, IsCarried, AreTurns, Fits, record_len, turns_len, peer_len, wire_len, is_of, has_room, pools_left, can_pool, can_peer, can_wire, can_turn, step, IsNext}
use Rattle.b1_text.specs.Nexts.{IsReached, Passes, HasSpec, AreFew}
use Rattle.b1_text.proofs.Judging.{both, both_of, pool_left_test, pool_left_is, room_test, room_is, peers_test, peers_are}
use Rattle.b1_text.proofs.Runs.{all_wires, peers_under}
use Rattle.b1_text.proofs.Made.{IsMade, made_all}
use Rattle.b1_text.proofs.Follow.{start_made}
use Rattle.b1_text.proofs.Begins.{same_test}
use Rattle.b1_text.proofs.CommandLines.{WordBegins}
use Rattle.b1_text.proofs.Firsts.{version_digit}
use Rattle.b1_model.specs.Versions.{version_number}

some_test : {A : Type 0} (b : Bool) (x : A) → IsSome (cond b (Some x) None) → b ≡ true
some_test true x h = refl
some_test false x h = absurd cc

test_some : {A : Type 0} (b : Bool) (x : A) → b ≡ true → IsSome (cond b (Some x) None)
test_some true x h = refl
test_some false x h = absurd cc

-- ---- one kind of statement

-- the line of such a statement begins with the bytes
abbrev pub KindBegins : {X : Type 0} → (X → Statement) → (X → Type 0) → (X → Bool) → List ℕ → Type 0
KindBegins make IsOf test line = Begins (Spells (λ x. statement_text (make x)) (Passes IsOf test)) line

kind_next : {X : Type 0} (d : Draft) (make : X → Statement) (IsOf : X → Type 0) (test : X → Bool) (line : List ℕ) → ((x : X) → IsOf x → Fits (make x)) → ((x : X) → test x ≡ true → IsSome (step d (make x))) → KindBegins make IsOf test line → Begins (IsNext d) line
kind_next d make IsOf test line fits goes b =
    let x = b.whole.value in
    record { rest = b.rest; whole = record { statement = make x; fits = fits x b.whole.is_of.fits; same = b.whole.same; goes_on = goes x b.whole.is_of.goes_on } }

next_kind : {X : Type 0} (make : X → Statement) (IsOf : X → Type 0) (test : X → Bool) (line rest : List ℕ) (x : X) → IsOf x → test x ≡ true → line ++ rest ≡ statement_text (make x) → KindBegins make IsOf test line
next_kind make IsOf test line rest x is goes same = record { rest = rest; whole = record { value = x; is_of = record { fits = is; goes_on = goes }; same = same } }

-- ---- an empty text, and the name alone

-- the first line of a text of either version
name_is : (v : Version) → name_text v ≡ codes "bus1 script " ++ (48 + version_number v) ∷ []
name_is v = ap (λ (x : List ℕ). codes "bus1 script " ++ x) (version_digit v)

name_next : (v : Version) (line : List ℕ) → WordBegins (codes "bus1 script " ++ (48 + version_number v) ∷ []) line → Begins (IsNext Empty) line
name_next v line b = record { rest = b.rest; whole = record { statement = says.Name v; fits = tt; same = b.whole ∙ sym (name_is v); goes_on = refl } }

pub first_next : (line : List ℕ) → WordBegins (codes "bus1 script 1") line → Begins (IsNext Empty) line
first_next line b = name_next One line b

name_of : (line rest : List ℕ) (s : Statement) → line ++ rest ≡ statement_text s → IsSome (step Empty s) → (v : Version) × (line ++ rest ≡ codes "bus1 script " ++ (48 + version_number v) ∷ [])
name_of line rest (says.Name v) same some = (v, same ∙ name_is v)
name_of line rest s same some = absurd cc

second_of : (v : Version) (line rest : List ℕ) → (WordBegins (codes "bus1 script 1") line → ⊥) → line ++ rest ≡ codes "bus1 script " ++ (48 + version_number v) ∷ [] → WordBegins (codes "bus1 script 2") line
second_of One line rest first same = absurd (first (record { rest = rest; whole = same }))
second_of Two line rest first same = record { rest = rest; whole = same }

pub second_next : (line : List ℕ) (r : Bool) → (WordBegins (codes "bus1 script 1") line → ⊥) → IsTrue r ↔ WordBegins (codes "bus1 script 2") line → IsTrue r ↔ Begins (IsNext Empty) line
second_next line r first h = (
  λ t. name_next Two line (h.0 t),
  λ b. let n = name_of line b.rest b.whole.statement b.whole.same b.whole.goes_on in h.1 (second_of n.0 line b.rest first n.1),
)

abbrev pub ClockBegins : List ℕ → Type 0
ClockBegins line = KindBegins (λ n. says.Clock n) Is64 is_first_clock line

clock_of : (version : Version) (line rest : List ℕ) (s : Statement) → Fits s → line ++ rest ≡ statement_text s → IsSome (step (Named version) s) → ClockBegins line
clock_of version line rest (says.Clock n) fits same some = next_kind (λ n. says.Clock n) Is64 is_first_clock line rest n fits (some_test (is_first_clock n) _ some) same
clock_of version line rest s fits same some = absurd cc

pub named_next : (version : Version) (line : List ℕ) (r : Bool) → IsTrue r ↔ ClockBegins line → IsTrue r ↔ Begins (IsNext (Named version)) line
named_next version line r h = (
  λ t. kind_next (Named version) (λ n. says.Clock n) Is64 is_first_clock line (λ n is. is) (λ n goes. test_some (is_first_clock n) _ goes) (h.0 t),
  λ b. h.1 (clock_of version line b.rest b.whole.statement b.whole.fits b.whole.same b.whole.goes_on),
)

whole_of_none : {d : Draft} (line : List ℕ) → ((s : Statement) → IsSome (step d s) → ⊥) → Begins (IsNext d) line → ⊥
whole_of_none line f b = f b.whole.statement b.whole.goes_on

-- ---- an opening

abbrev pub PeerBegins : Version → Opening → ℕ → List ℕ → Type 0
PeerBegins version o len line = KindBegins (λ p. says.Peer p) IsSpec (λ p. can_peer version o p && has_room (length o.peers + 1) len (peer_len o)) line

abbrev pub WireBegins : Opening → List Wire → ℕ → List ℕ → Type 0
WireBegins o held len line = KindBegins (λ w. says.Wire w) HasWireFields (λ w. can_wire (length o.peers) held w && has_room (length o.peers) len wire_len) line

abbrev pub FirstListBegins : Opening → List ℕ → Type 0
FirstListBegins o line = KindBegins (λ n. says.Commands n) Is32 (λ n. (eqb n 0) && ltb 0 (length o.peers)) line

module _ (version : Version) (o : Opening) (held : List Wire) (len : ℕ) (line : List ℕ) where
  pub peer_next : PeerBegins version o len line → Begins (IsNext (Opened version o held len)) line
  peer_next b =
      kind_next (Opened version o held len) (λ p. says.Peer p) IsSpec (λ p. can_peer version o p && has_room (length o.peers + 1) len (peer_len o)) line (λ p is. is)
      (λ p goes. test_some (can_peer version o p && has_room (length o.peers + 1) len (peer_len o)) _ goes) b

  pub wire_next : WireBegins o held len line → Begins (IsNext (Opened version o held len)) line
  wire_next b =
      kind_next (Opened version o held len) (λ w. says.Wire w) HasWireFields (λ w. can_wire (length o.peers) held w && has_room (length o.peers) len wire_len) line (λ w is. is)
      (λ w goes. test_some (can_wire (length o.peers) held w && has_room (length o.peers) len wire_len) _ goes) b

  pub first_list_next : FirstListBegins o line → Begins (IsNext (Opened version o held len)) line
  first_list_next b =
      kind_next (Opened version o held len) (λ n. says.Commands n) Is32 (λ n. (eqb n 0) && ltb 0 (length o.peers)) line (λ n is. is) (λ n goes. test_some ((eqb n 0) && ltb 0 (length o.peers)) _ goes) b

opened_of : (version : Version) (o : Opening) (held : List Wire) (len : ℕ) (line rest : List ℕ) (s : Statement) → (PeerBegins version o len line → ⊥) → (WireBegins o held len line → ⊥) → Fits s → line ++ rest ≡ statement_text s → IsSome (step (Opened version o held len) s) → FirstListBegins o line
opened_of version o held len line rest (says.Peer p) no_peer no_wire fits same some =
    absurd (no_peer (next_kind (λ p. says.Peer p) IsSpec (λ p. can_peer version o p && has_room (length o.peers + 1) len (peer_len o)) line rest p fits (some_test (can_peer version o p && has_room (length o.peers + 1) len (peer_len o)) _ some) same))
opened_of version o held len line rest (says.Wire w) no_peer no_wire fits same some =
    absurd (no_wire (next_kind (λ w. says.Wire w) HasWireFields (λ w. can_wire (length o.peers) held w && has_room (length o.peers) len wire_len) line rest w fits (some_test (can_wire (length o.peers) held w && has_room (length o.peers) len wire_len) _ some) same))
opened_of version o held len line rest (says.Commands n) no_peer no_wire fits same some =
    next_kind (λ n. says.Commands n) Is32 (λ n. (eqb n 0) && ltb 0 (length o.peers)) line rest n fits (some_test ((eqb n 0) && ltb 0 (length o.peers)) _ some) same
opened_of version o held len line rest s no_peer no_wire fits same some = absurd cc

pub opened_last : (version : Version) (o : Opening) (held : List Wire) (len : ℕ) (line : List ℕ) → (PeerBegins version o len line → ⊥) → (WireBegins o held len line → ⊥) → Begins (IsNext (Opened version o held len)) line → FirstListBegins o line
opened_last version o held len line no_peer no_wire b = opened_of version o held len line b.rest b.whole.statement no_peer no_wire b.whole.fits b.whole.same b.whole.goes_on

-- one more peer, by its pool
pub peer_test : (version : Version) (o : Opening) (len : ℕ) (line : List ℕ) (r : Bool) → length o.wires ≡ 0 → length o.peers < most_peers version → has_room (length o.peers + 1) len (peer_len o) ≡ true
    → IsTrue r ↔ Begins (Spells peer_text (HasSpec (pools_left o.peers))) line → IsTrue r ↔ PeerBegins version o len line
peer_test version o len line r unwired few room h =
    same_test peer_text (HasSpec (pools_left o.peers)) (Passes IsSpec (λ p. can_peer version o p && has_room (length o.peers + 1) len (peer_len o))) line r
    (λ p is. record {
      fits = is.spec;
      goes_on = both (can_peer version o p) (has_room (length o.peers + 1) len (peer_len o))
          (both ((eqb (length o.wires) 0) && ltb (length o.peers) (most_peers version)) (can_pool o.peers p.pool)
          (both (eqb (length o.wires) 0) (ltb (length o.peers) (most_peers version)) (eq-eqb (length o.wires) 0 unwired) (lt-ltb (length o.peers) (most_peers version) few)) (pool_left_test o.peers p.pool is.pool is.fits)) room;
    })
    (λ p next.
    let a = both_of (can_peer version o p) (has_room (length o.peers + 1) len (peer_len o)) next.goes_on in
    let b = both_of ((eqb (length o.wires) 0) && ltb (length o.peers) (most_peers version)) (can_pool o.peers p.pool) a.0 in
    let c = pool_left_is o.peers p.pool b.1 in
    record { spec = next.fits; pool = c.0; fits = c.1 }) h

-- ---- lists of commands

abbrev pub ListBegins : Opening → ℕ → List ℕ → Type 0
ListBegins o lists line = KindBegins (λ n. says.Commands n) Is32 (λ n. (eqb n (lists + 1)) && ltb n (length o.peers)) line

abbrev pub TurnsBegin : Opening → ℕ → ℕ → List ℕ → Type 0
TurnsBegin o lists len line = KindBegins (λ ts. says.Turns ts) AreTurns (λ ts. can_turn o (lists + 1) ts && has_room (length o.peers) len (turns_len (length ts))) line

abbrev pub NextCommandBegins : Version → Opening → ℕ → List ℕ → Type 0
NextCommandBegins version o len line = KindBegins (λ e. says.Command e) IsCarried (λ e. is_of version e.cookie && has_room (length o.peers) len (record_len e)) line

module _ (version : Version) (o : Opening) (lists : List (List Entry)) (list : List Entry) (len : ℕ) (line : List ℕ) where
  pub list_next : ListBegins o (length lists) line → Begins (IsNext (Listing version o lists list len)) line
  list_next b =
      kind_next (Listing version o lists list len) (λ n. says.Commands n) Is32 (λ n. (eqb n (length lists + 1)) && ltb n (length o.peers)) line (λ n is. is)
      (λ n goes. test_some ((eqb n (length lists + 1)) && ltb n (length o.peers)) _ goes) b

  pub turns_next : TurnsBegin o (length lists) len line → Begins (IsNext (Listing version o lists list len)) line
  turns_next b =
      kind_next (Listing version o lists list len) (λ ts. says.Turns ts) AreTurns (λ ts. can_turn o (length lists + 1) ts && has_room (length o.peers) len (turns_len (length ts))) line (λ ts is. is)
      (λ ts goes. test_some (can_turn o (length lists + 1) ts && has_room (length o.peers) len (turns_len (length ts))) _ goes) b

  pub command_next : NextCommandBegins version o len line → Begins (IsNext (Listing version o lists list len)) line
  command_next b =
      kind_next (Listing version o lists list len) (λ e. says.Command e) IsCarried (λ e. is_of version e.cookie && has_room (length o.peers) len (record_len e)) line (λ e is. is)
      (λ e goes. test_some (is_of version e.cookie && has_room (length o.peers) len (record_len e)) _ goes) b

listing_of : (version : Version) (o : Opening) (lists : List (List Entry)) (list : List Entry) (len : ℕ) (line rest : List ℕ) (s : Statement) → (ListBegins o (length lists) line → ⊥) → (TurnsBegin o (length lists) len line → ⊥) → Fits s → line ++ rest ≡ statement_text s
    → IsSome (step (Listing version o lists list len) s) → NextCommandBegins version o len line
listing_of version o lists list len line rest (says.Commands n) no_list no_turns fits same some =
    absurd (no_list (next_kind (λ n. says.Commands n) Is32 (λ n. (eqb n (length lists + 1)) && ltb n (length o.peers)) line rest n fits (some_test ((eqb n (length lists + 1)) && ltb n (length o.peers)) _ some) same))
listing_of version o lists list len line rest (says.Turns ts) no_list no_turns fits same some =
    absurd (no_turns (next_kind (λ ts. says.Turns ts) AreTurns (λ ts. can_turn o (length lists + 1) ts && has_room (length o.peers) len (turns_len (length ts))) line rest ts fits (some_test (can_turn o (length lists + 1) ts && has_room (length o.peers) len (turns_len (length ts))) _ some) same))
listing_of version o lists list len line rest (says.Command e) no_list no_turns fits same some =
    next_kind (λ e. says.Command e) IsCarried (λ e. is_of version e.cookie && has_room (length o.peers) len (record_len e)) line rest e fits (some_test (is_of version e.cookie && has_room (length o.peers) len (record_len e)) _ some) same
listing_of version o lists list len line rest s no_list no_turns fits same some = absurd cc

pub listing_last : (version : Version) (o : Opening) (lists : List (List Entry)) (list : List Entry) (len : ℕ) (line : List ℕ) → (ListBegins o (length lists) line → ⊥) → (TurnsBegin o (length lists) len line → ⊥) → Begins (IsNext (Listing version o lists list len)) line → NextCommandBegins version o len line
listing_last version o lists list len line no_list no_turns b = listing_of version o lists list len line b.rest b.whole.statement no_list no_turns b.whole.fits b.whole.same b.whole.goes_on

-- ---- reached drafts

pub reached_made : (d : Draft) (r : IsReached d) → IsMade d r.read
reached_made d r = made_all r.read [] (Some Empty) d start_made r.fits r.made

held_more : (held : List Wire) (b : Bool) (given : Wire) → length (cond b held (held ++ given ∷ [])) ≤ length held + 1
held_more held true given = omega arith
held_more held false given = omega (arith, length-append held (given ∷ []))

owner_more : (held : List Wire) (given : Option Wire) → length (unwrap_or (option_map (with_held held) given) held) ≤ length held + 1
owner_more held None = omega arith
owner_more held (Some g) = held_more held (list_any (λ h. is_same h g) held) g

all_wires_len : (ws held : List Wire) → length (all_wires held ws) ≤ length held + length ws
all_wires_len [] held = omega arith
all_wires_len (w ∷ ws) held =
    let ih = all_wires_len ws (after_wire held w) in
    let one = owner_more held (from_owner held w) in
    omega (arith, ih, one)

pub opened_peers : (version : Version) (o : Opening) (held : List Wire) (len : ℕ) → IsReached (Opened version o held len) → length o.peers ≤ MOST_PEERS
opened_peers version o held len r = omega (arith, (reached_made (Opened version o held len) r).begun.most, peers_under version)

pub opened_few : (version : Version) (o : Opening) (held : List Wire) (len : ℕ) → IsReached (Opened version o held len) → AreFew held
opened_few version o held len r =
    let m = reached_made (Opened version o held len) r in
    let n : length held ≡ length (all_wires [] o.wires) = ap (λ (ws : List Wire). length ws) m.gives in
    omega (arith, n, all_wires_len o.wires [], m.begun.short, most_under (length o.peers))

pub listing_few : (version : Version) (o : Opening) (lists : List (List Entry)) (list : List Entry) (len : ℕ) → IsReached (Listing version o lists list len) → length lists < MOST_PEERS
listing_few version o lists list len r = let m = reached_made (Listing version o lists list len) r in omega (arith, m.few, m.begun.most, peers_under version)

-- ---- turns for which there is room

peers_up : (lists n : ℕ) (ts : List ℕ) → lists + 1 ≡ n → AllByRecursion (λ p. p ≤ lists) ts → AllByRecursion (λ p. p < n) ts
peers_up lists n [] e h = tt
peers_up lists n (t ∷ ts) e h = (omega (arith, e, h.0), peers_up lists n ts e h.1)

peers_down : (lists n : ℕ) (ts : List ℕ) → lists + 1 ≡ n → AllByRecursion (λ p. p < n) ts → AllByRecursion (λ p. p ≤ lists) ts
peers_down lists n [] e h = tt
peers_down lists n (t ∷ ts) e h = (omega (arith, e, h.0), peers_down lists n ts e h.1)

peers_fit : (lists : ℕ) (ts : List ℕ) → lists < MOST_PEERS → AllByRecursion (λ p. p ≤ lists) ts → AllByRecursion Is32 ts
peers_fit lists [] few h = tt
peers_fit lists (t ∷ ts) few h = (omega (arith, few, h.0), peers_fit lists ts few h.1)

turns_room : (most len k : ℕ) → len ≤ most → k ≤ (most - len) / 8 * 2 → len + turns_len k ≤ most
turns_room most len k short few = omega (arith, short, few)

room_turns : (most len k : ℕ) → len ≤ most → len + turns_len k ≤ most → k ≤ (most - len) / 8 * 2
room_turns most len k short few = omega (arith, short, few)

-- so many turns fit a script
few_turns : (top k : ℕ) → top ≤ MOST_SCRIPT → (len : ℕ) → k ≤ (top - len) / 8 * 2 → k ≤ MOST_SCRIPT
few_turns top k under len few = omega (arith, under, few)

pub turns_test : (o : Opening) (lists len most : ℕ) (line : List ℕ) (r : Bool) → lists + 1 ≡ length o.peers → lists < MOST_PEERS → len ≤ most_len (length o.peers) → most ≡ (most_len (length o.peers) - len) / 8 * 2
    → IsTrue r ↔ Begins (Spells (λ ns. codes "turns " ++ list_text decimal ns) (AreItems (UpTo lists) most)) line → IsTrue r ↔ TurnsBegin o lists len line
turns_test o lists len most line r all few short is h =
    let n : ℕ = length o.peers in
    let top : ℕ = most_len n in
    same_test (λ ns. codes "turns " ++ list_text decimal ns) (AreItems (UpTo lists) most) (Passes AreTurns (λ ts. can_turn o (lists + 1) ts && has_room n len (turns_len (length ts)))) line r
    (λ ts items.
    let count : length ts ≤ (top - len) / 8 * 2 = omega (arith, items.few, is) in
    let peers : AllByRecursion (λ p. p < n) ts = peers_up lists n ts all items.items in
    let can : can_turn o (lists + 1) ts ≡ true = both (eqb (lists + 1) n) (list_all (λ p. ltb p n) ts) (eq-eqb (lists + 1) n all) (peers_test n ts peers) in
    record {
      fits = record { peers = peers_fit lists ts few items.items; few = few_turns top (length ts) (most_under n) len count };
      goes_on = both (can_turn o (lists + 1) ts) (has_room n len (turns_len (length ts))) can (room_test n len (turns_len (length ts)) (turns_room top len (length ts) short count));
    })
    (λ ts next.
    let tests = both_of (can_turn o (lists + 1) ts) (has_room n len (turns_len (length ts))) next.goes_on in
    let peers = both_of (eqb (lists + 1) n) (list_all (λ p. ltb p n) ts) tests.0 in
    let count = room_turns top len (length ts) short (room_is n len (turns_len (length ts)) tests.1) in
    record { items = peers_down lists n ts all (peers_are n ts peers.1); few = omega (arith, count, is) }) h
