-- The notices of a destruction at another peer: of the machine, where it is visited, synced and told, and of the serial bus.
use Rattle.std.proofs.Common.{◌≡◌, ◌≢◌, refl, sym, ap, ◌∙◌, subst, ℕ, ◌+◌, max, Bool, true, false, cond, ◌||◌, not, List, [], ◌∷◌, ◌++◌, map, filter, Some, None, is_some, append_assoc, append-nil, if◌then◌else◌, arith}
use Rattle.std.specs.List.{list_any}
use Rattle.std.proofs.lemmas.Bool.{or_parts, false_from_ne_true}
use Rattle.b1_model.specs.declared.naming.Key.{Key}
use Rattle.b1_model.specs.declared.naming.NodeRef.{NodeRef}
use Rattle.b1_model.specs.declared.entries.Entry.{Entry}
use Rattle.b1_model.specs.declared.entries.Entry.TheVariants.{ForeignNotice}
use Rattle.b1_model.specs.MachineParts.{PeerPart, DriverPart, is_staged, is_odd, same_ref}
use Rattle.b1_model.specs.MachineTables.{put, put_all, without, is_staged_notice, changed}
use Rattle.b1_model.specs.MachineTables as tables
use Rattle.b1_model.specs.MachineSend.{synced, with_stamp, notices_committed}
use Rattle.b1_model.specs.MachineDestroy.{needs_notice, notice_by, visited_from, visited}
use Rattle.b1_step.specs.Rights.{Has}
use Rattle.b1_step.proofs.Lookups.{other_changed}
use Rattle.b1_step.proofs.Orders.{same_ref_is, key_trans}
use Rattle.b1_step.proofs.Queues.{any_put}
use Rattle.b1_inv.specs.Notices.{Apart}
use Rattle.b1_inv.specs.Numbers.{AreNumbered}
use Rattle.b1_inv_refs.proofs.Numbered.{numbers_same}
use Rattle.b1_serial_bus.specs.Parts.{Part, key_of}
use Rattle.b1_serial_bus.specs.Named.{line_of}
use Rattle.b1_serial_bus.specs.References.{has_slot, refers}
use Rattle.b1_serial_bus.specs.Notices.{node_of, with_notice, with_notices}
use Rattle.b1_serial_rest.specs.Standing.{part_of}
use Rattle.b1_serial_own.proofs.Marked.{lines_kept}
use Rattle.b1_serial_own.proofs.Notes.{Queue, key_at, AllBefore, put_last, before_more, notes, notes_same, index_behind}
use Rattle.b1_serial_own.proofs.Notes as lists

-- the notice of another peer's node
abbrev pub foreign_note : ℕ → ℕ → ℕ → Entry
foreign_note p serial index = ForeignNotice (record { owner = p; serial = serial }) index

next_before : (p stamp i : ℕ) (queue : Queue) → AllBefore queue (key_at stamp p i) → AllBefore queue (key_at stamp p (i + 1))
next_before p stamp i queue before f there = key_trans f.0 (key_at stamp p i) (key_at stamp p (i + 1)) (before f there) (index_behind (foreign_note p) p (λ n. true) stamp i (i + 1) (omega arith))

-- ---- the machine's visit

module _ (p : ℕ) (d : DriverPart) where
  abbrev needs : PeerPart → ℕ → Bool
  needs z serial = needs_notice z (record { owner = p; serial = serial })

  -- a peer that is visited, from an index on
  abbrev Visits : ℕ → List ℕ → PeerPart → Type 0
  Visits i doomed z = part_of (visited_from p i doomed z) d ≡ record (part_of z d) { box = z.queue ++ notes (foreign_note p) (needs z) (z.clock + 1) p i doomed }

  -- a record that is marked leaves the other nodes' as they are
  needs_other : (z : PeerPart) (queue : Queue) (serial other : ℕ) → serial ≢ other
      → needs (record z { handles = changed (record { owner = p; serial = serial }) tables.noticed z.handles; queue = queue }) other ≡ needs z other
  needs_other z queue serial other apart =
      ap (λ r. elim r [ None ↦ false | Some h ↦ not h.notice ])
      (other_changed (record { owner = p; serial = serial }) tables.noticed (λ h. refl) (record { owner = p; serial = other }) (false_from_ne_true (same_ref (record { owner = p; serial = serial }) (record { owner = p; serial = other })) (λ same. apart (ap (λ n. n.serial) (same_ref_is (record { owner = p; serial = serial }) (record { owner = p; serial = other }) same)))) z.handles)

  -- a peer with one record marked, and its notice staged
  abbrev marked_at : ℕ → ℕ → PeerPart → PeerPart
  marked_at i serial z = record z { handles = changed (record { owner = p; serial = serial }) tables.noticed z.handles; queue = put (key_at (z.clock + 1) p i) (foreign_note p serial i) z.queue }

  pub visits_shown : (doomed : List ℕ) (i : ℕ) (z : PeerPart) → Apart doomed → AreNumbered z.given z.handles → AllBefore z.queue (key_at (z.clock + 1) p i) → Visits i doomed z
  visits_shown [] i z apart numbered before = ap (λ q. record (part_of z d) { box = q }) (sym (append-nil z.queue))
  visits_shown (serial ∷ rest) i z apart numbered before =
      by (needs z serial)
      (visits_shown rest (i + 1) z apart.1 numbered (next_before p (z.clock + 1) i z.queue before))
      (visits_shown rest (i + 1) (marked_at i serial z) apart.1
      (numbers_same z.given (record { owner = p; serial = serial }) tables.noticed (λ h. refl) (λ h. refl) (λ h. refl) z.handles numbered)
      (subst (λ q. AllBefore q (key_at (z.clock + 1) p (i + 1))) (sym appended) (before_more z.queue (key_at (z.clock + 1) p i) (key_at (z.clock + 1) p (i + 1)) (foreign_note p serial i) before (index_behind (foreign_note p) p (λ n. true) (z.clock + 1) i (i + 1) (omega arith)))))
    where
      appended : put (key_at (z.clock + 1) p i) (foreign_note p serial i) z.queue ≡ z.queue ++ (key_at (z.clock + 1) p i, foreign_note p serial i) ∷ []
      appended = put_last (key_at (z.clock + 1) p i) (foreign_note p serial i) z.queue before

      by : (b : Bool) → Visits (i + 1) rest z → Visits (i + 1) rest (marked_at i serial z) → part_of (visited_from p (i + 1) rest (notice_by b p z i (record { owner = p; serial = serial }))) d
          ≡ record (part_of z d) { box = z.queue ++ cond b ((key_at (z.clock + 1) p i, foreign_note p serial i) ∷ notes (foreign_note p) (needs z) (z.clock + 1) p (i + 1) rest) (notes (foreign_note p) (needs z) (z.clock + 1) p (i + 1) rest) }
      by false plain further = plain
      by true plain further =
          further
          ∙ ap (λ ls. record (part_of z d) { lines = ls; box = (marked_at i serial z).queue ++ notes (foreign_note p) (needs (marked_at i serial z)) (z.clock + 1) p (i + 1) rest }) (lines_kept (record { owner = p; serial = serial }) tables.noticed (λ h. refl) (λ h. refl) (λ h. refl) (λ h. refl) z.handles (λ h k there is. (numbered.held h k there is).0))
          ∙ ap (λ l. record (part_of z d) { box = (marked_at i serial z).queue ++ l }) (notes_same (foreign_note p) p (needs (marked_at i serial z)) (needs z) (z.clock + 1) (i + 1) rest (λ n there. needs_other z (marked_at i serial z).queue serial n (λ same. apart.0 (subst (Has rest) (sym same) there))))
          ∙ ap (λ q. record (part_of z d) { box = q ++ notes (foreign_note p) (needs z) (z.clock + 1) p (i + 1) rest }) appended
          ∙ ap (λ q. record (part_of z d) { box = q }) (append_assoc z.queue ((key_at (z.clock + 1) p i, foreign_note p serial i) ∷ []) (notes (foreign_note p) (needs z) (z.clock + 1) p (i + 1) rest))

  -- then it is synced, and its notices get the stamp
  pub told_shown : (stamp : ℕ) (doomed : List ℕ) (z : PeerPart) → Apart doomed → AreNumbered z.given z.handles → is_odd (z.clock + 1) ≡ true → ((f : Key × Entry) → Has z.queue f → is_staged f ≡ false)
      → ((j : ℕ) → AllBefore z.queue (key_at (z.clock + 1) p j)) → ((j : ℕ) → AllBefore z.queue (key_at stamp p j))
      → part_of (notices_committed (synced (visited z p doomed) stamp) p stamp) d ≡ record (part_of z d) { clock = max z.clock stamp; box = z.queue ++ notes (foreign_note p) (needs z) stamp p 0 doomed }
  told_shown stamp doomed z apart numbered odd even before below =
      ap (λ (y : Part). record y { clock = max y.clock stamp; box = put_all (map (with_stamp stamp) (filter (is_staged_notice p) y.box)) (without (is_staged_notice p) y.box) }) (visits_shown doomed 0 z apart numbered (before 0))
      ∙ ap (λ q. record (part_of z d) { clock = max z.clock stamp; box = q }) (lists.notes_committed (foreign_note p) p (needs z) (z.clock + 1) stamp doomed z.queue odd (λ n at. refl) even below)

-- ---- the serial bus

module _ (p stamp : ℕ) where
  abbrev refers_to : Part → ℕ → Bool
  refers_to y serial = refers (node_of p serial) y

  -- a notice changes nothing of who refers
  notice_refers : (n : NodeRef) (i serial : ℕ) (y : Part) → refers n (with_notice stamp p i serial y) ≡ refers n y
  notice_refers n i serial y = ap (λ b. is_some (line_of n y.lines) || b) (any_put (has_slot n) (key_of stamp p i) (ForeignNotice (node_of p serial) i) y.box)

  pub notices_shown : (doomed : List ℕ) (i : ℕ) (y : Part) → AllBefore y.box (key_at stamp p i)
      → with_notices stamp p i doomed y ≡ record y { clock = cond (list_any (refers_to y) doomed) stamp y.clock; box = y.box ++ notes (foreign_note p) (refers_to y) stamp p i doomed }
  notices_shown [] i y before = ap (λ q. record y { box = q }) (sym (append-nil y.box))
  notices_shown (serial ∷ rest) i y before =
      by (refers_to y serial)
      (notices_shown rest (i + 1) y (next_before p stamp i y.box before))
      (notices_shown rest (i + 1) (with_notice stamp p i serial y) (subst (λ q. AllBefore q (key_at stamp p (i + 1))) (sym appended) (before_more y.box (key_at stamp p i) (key_at stamp p (i + 1)) (foreign_note p serial i) before (index_behind (foreign_note p) p (λ n. true) stamp i (i + 1) (omega arith)))))
    where
      appended : put (key_at stamp p i) (foreign_note p serial i) y.box ≡ y.box ++ (key_at stamp p i, foreign_note p serial i) ∷ []
      appended = put_last (key_at stamp p i) (foreign_note p serial i) y.box before

      same_clock : (b : Bool) → cond b stamp stamp ≡ stamp
      same_clock true = refl
      same_clock false = refl

      by : (b : Bool) → with_notices stamp p (i + 1) rest y ≡ record y { clock = cond (list_any (refers_to y) rest) stamp y.clock; box = y.box ++ notes (foreign_note p) (refers_to y) stamp p (i + 1) rest }
          → with_notices stamp p (i + 1) rest (with_notice stamp p i serial y) ≡ record (with_notice stamp p i serial y) { clock = cond (list_any (refers_to (with_notice stamp p i serial y)) rest) stamp stamp; box = (with_notice stamp p i serial y).box ++ notes (foreign_note p) (refers_to (with_notice stamp p i serial y)) stamp p (i + 1) rest }
          → with_notices stamp p (i + 1) rest (if b then with_notice stamp p i serial y else y)
          ≡ record y { clock = cond (b || list_any (refers_to y) rest) stamp y.clock; box = y.box ++ cond b ((key_at stamp p i, foreign_note p serial i) ∷ notes (foreign_note p) (refers_to y) stamp p (i + 1) rest) (notes (foreign_note p) (refers_to y) stamp p (i + 1) rest) }
      by false plain further = plain
      by true plain further =
          further
          ∙ ap (λ c. record y { clock = c; box = (with_notice stamp p i serial y).box ++ notes (foreign_note p) (refers_to (with_notice stamp p i serial y)) stamp p (i + 1) rest }) (same_clock (list_any (refers_to (with_notice stamp p i serial y)) rest))
          ∙ ap (λ l. record y { clock = stamp; box = (with_notice stamp p i serial y).box ++ l }) (notes_same (foreign_note p) p (refers_to (with_notice stamp p i serial y)) (refers_to y) stamp (i + 1) rest (λ n there. notice_refers (node_of p n) i serial y))
          ∙ ap (λ q. record y { clock = stamp; box = q ++ notes (foreign_note p) (refers_to y) stamp p (i + 1) rest }) appended
          ∙ ap (λ q. record y { clock = stamp; box = q }) (append_assoc y.box ((key_at stamp p i, foreign_note p serial i) ∷ []) (notes (foreign_note p) (refers_to y) stamp p (i + 1) rest))

  -- a peer that refers to none of the nodes is left as it is
  pub notices_none : (doomed : List ℕ) (i : ℕ) (y : Part) → list_any (refers_to y) doomed ≡ false → with_notices stamp p i doomed y ≡ y
  notices_none [] i y none = refl
  notices_none (serial ∷ rest) i y none =
      let both = or_parts (refers_to y serial) (list_any (refers_to y) rest) none in
      ap (λ b. with_notices stamp p (i + 1) rest (if b then with_notice stamp p i serial y else y)) both.0 ∙ notices_none rest (i + 1) y both.1
