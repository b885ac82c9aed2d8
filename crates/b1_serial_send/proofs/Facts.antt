-- What holds of each part of a reached state at rest, also once the sender of a SEND has made its nodes.
use Rattle.std.proofs.Common.{◌≡◌, refl, sym, ap, ◌∙◌, subst, inl, inr, ℕ, zero, suc, ◌+◌, ◌<◌, ◌≤◌, ◌==◌, ◌%◌, Bool, true, false, cond, List, [], ◌∷◌, ◌++◌, filter, fold, get_or, length, replicate, Option, Some, None, option_map, arith}
use Rattle.std.specs.Prelude.{slice_get}
use Rattle.std.proofs.lemmas.Bool.{eq-eqb, eqb-true, false_from_ne_true, cases_lt}
use Rattle.std.proofs.lemmas.List.{get_or_past}
use Rattle.std.proofs.lemmas.Option.{same_Some, slice_get-map}
use Rattle.b1_model.specs.declared.naming.Key.{Key}
use Rattle.b1_model.specs.declared.naming.NodeRef.{NodeRef}
use Rattle.b1_model.specs.declared.naming.Opening.{Opening}
use Rattle.b1_model.specs.Opening.{IsOpening}
use Rattle.b1_model.specs.declared.commands.SendCmd.{SendCmd}
use Rattle.b1_model.specs.declared.parts.NodeState.{NodeState}
use Rattle.b1_model.specs.declared.parts.NodeState.TheVariants.{Live, Dying, Destroyed}
use Rattle.b1_model.specs.declared.entries.Entry.{Entry}
use Rattle.b1_model.specs.declared.entries.Entry.TheVariants.{Message, OwnNotice, ForeignNotice, ReleaseNotice}
use Rattle.b1_model.specs.Names.{is_own}
use Rattle.b1_model.specs.MachineParts.{PeerPart, DriverPart, NodePart, State, no_node, node_at, is_odd, is_staged, is_live, is_dying, is_destroyed, is_release_notice}
use Rattle.b1_model.specs.MachineTables.{with_made, serial_of, without}
use Rattle.b1_model.specs.MachineSend.{begun_part}
use Rattle.b1_model.specs.MachineStep.{Reached}
use Rattle.b1_step.specs.Rights.{Has}
use Rattle.b1_step.proofs.Lists.{has_within}
use Rattle.b1_inv.specs.Words.{IsPeer, IsDriver, IsMade}
use Rattle.b1_inv.specs.Sound.{IsSound}
use Rattle.b1_inv_record.specs.Right.{IsRight}
use Rattle.b1_law.proofs.Reached.{reached_sound}
use Rattle.b1_legal.proofs.Reached.{reached_right}
use Rattle.b1_serial_bus.specs.Parts.{Bus, at_peer}
use Rattle.b1_serial_bus.specs.Named.{making}
use Rattle.b1_serial_rest.specs.Standing.{part_of}
use Rattle.b1_serial_rest.specs.Rest.{AtRest}
use Rattle.b1_serial_rest.proofs.Living.{AreLiving, made_living}
use Rattle.b1_serial_whole.proofs.Quiet.{driver_beside}
use Rattle.b1_serial_send.proofs.Midway.{with_begin, midway}
use Rattle.b1_serial_send.proofs.Parts.{Placed, at_keeps}
use Rattle.b1_serial_send.proofs.Keys.{without_none}
use Rattle.b1_serial_send.proofs.Gone.{ReleasesRight}
use Rattle.b1_serial_send.proofs.Delivered.{read_change}
use Rattle.b1_serial_send.proofs.Ending.{bus_there}
use Rattle.b1_serial_send.proofs.Begun.{making_so}

-- ---- nodes that are made

living_all : (peers : ℕ) (numbers : List ℕ) (nodes : List NodePart) → AreLiving nodes → AreLiving (fold (λ ns number. with_made peers number ns) nodes numbers)
living_all peers [] nodes living = living
living_all peers (n ∷ rest) nodes living = living_all peers rest (with_made peers n nodes) (made_living peers n nodes living)

-- by its serial
living_at : (nodes : List NodePart) → AreLiving nodes → (j : ℕ) → is_dying (get_or nodes j no_node).state ≡ false
living_at nodes living j = elim (cases_lt j (length nodes)) [
  | inl less ↦ living (get_or nodes j no_node) (has_within nodes j no_node less)
  | inr past ↦ ap (λ n. is_dying n.state) (get_or_past nodes j no_node past)
]

-- a live node stays
live_more : (nodes : List NodePart) (n : NodePart) (j : ℕ) → is_live (get_or nodes j no_node).state ≡ true → get_or (nodes ++ n ∷ []) j no_node ≡ get_or nodes j no_node
live_more [] n j live = absurd (cc live)
live_more (k ∷ rest) n zero live = refl
live_more (k ∷ rest) n (suc j) live = live_more rest n j live

live_made : (peers number : ℕ) (nodes : List NodePart) (j : ℕ) → is_live (get_or nodes j no_node).state ≡ true → get_or (with_made peers number nodes) j no_node ≡ get_or nodes j no_node
live_made peers number nodes j live = by (serial_of number nodes)
  where
    by : (r : Option ℕ) → get_or (elim r [ None ↦ nodes ++ record { number = number; state = Live; counts = replicate peers 0; taken = false } ∷ [] | Some serial ↦ nodes ]) j no_node ≡ get_or nodes j no_node
    by None = live_more nodes (record { number = number; state = Live; counts = replicate peers 0; taken = false }) j live
    by (Some serial) = refl

live_all : (peers : ℕ) (numbers : List ℕ) (nodes : List NodePart) (j : ℕ) → is_live (get_or nodes j no_node).state ≡ true → get_or (fold (λ ns number. with_made peers number ns) nodes numbers) j no_node ≡ get_or nodes j no_node
live_all peers [] nodes j live = refl
live_all peers (n ∷ rest) nodes j live =
    let one = live_made peers n nodes j live in
    live_all peers rest (with_made peers n nodes) j (ap (λ z. is_live z.state) one ∙ live) ∙ one

live_not_destroyed : (st : NodeState) → is_live st ≡ true → is_destroyed st ≡ false
live_not_destroyed Live live = refl
live_not_destroyed Dying live = absurd (cc live)
live_not_destroyed (Destroyed stamp) live = absurd (cc live)

-- ---- at rest

module _ {o : Opening} {s : State} {bus : Bus} (opens : IsOpening o) (reached : Reached o s) (rest : AtRest o s bus) where
  pub sound : IsSound o s
  sound = reached_sound o s opens reached

  pub right : IsRight o s
  right = reached_right o s opens reached

  pub placed : Placed s.peers
  placed q x is = (rest.numbered.peers q x is).me

  pub living : (q : ℕ) (x : PeerPart) → IsPeer s q x → (j : ℕ) → is_dying (node_at x j).state ≡ false
  living q x is = living_at x.nodes (λ n there. rest.quiet.stamped q x n is there)

  -- no stamp of a queue is above the clock
  pub low : (q : ℕ) (x : PeerPart) (f : Key × Entry) → IsPeer s q x → Has x.queue f → f.0.stamp ≤ x.clock
  low q x f is there = right.clocks.committed.below q x f is there (rest.quiet.committed q x f is there)

  pub even_clock : (q : ℕ) (x : PeerPart) → IsPeer s q x → x.clock % 2 ≡ 0
  even_clock q x is = (sound.clocks.clock q x is).0

  -- a release notice is of a live node
  noticed_live : (q : ℕ) (x : PeerPart) → IsPeer s q x → (j : ℕ) (f : Key × Entry) → Has x.queue f → is_release_notice j f ≡ true → is_live (node_at x j).state ≡ true
  noticed_live q x is j (k, Message origin user index serial offset len nodes slots handles payload) there of = absurd (cc of)
  noticed_live q x is j (k, OwnNotice serial index) there of = absurd (cc of)
  noticed_live q x is j (k, ForeignNotice node index) there of = absurd (cc of)
  noticed_live q x is j (k, ReleaseNotice mine) there of = subst (λ i. is_live (node_at x i).state ≡ true) (eqb-true mine j of) (right.parts.releases.live q mine x k is there)

  module _ (p : ℕ) (c : SendCmd) where
    pub begun_living : (q : ℕ) (x : PeerPart) → IsPeer s q x → (j : ℕ) → is_dying (node_at (with_begin p c x) j).state ≡ false
    begun_living q x is j = elim (p == x.me) as (λ b. is_dying (node_at (cond b (begun_part x c) x) j).state ≡ false) [
      | true ↦ living_at (begun_part x c).nodes (living_all x.peers (filter is_own c.with) x.nodes (λ n there. rest.quiet.stamped q x n is there)) j
      | false ↦ living q x is j
    ]

    pub begun_queue : (x : PeerPart) → (with_begin p c x).queue ≡ x.queue
    begun_queue x = at_keeps (λ z. z.queue) p (λ z. begun_part z c) x refl

    pub begun_clock : (x : PeerPart) → (with_begin p c x).clock ≡ x.clock
    begun_clock x = at_keeps (λ z. z.clock) p (λ z. begun_part z c) x refl

    pub begun_me : (x : PeerPart) → (with_begin p c x).me ≡ x.me
    begun_me x = at_keeps (λ z. z.me) p (λ z. begun_part z c) x refl

    live_stays : (x : PeerPart) (j : ℕ) → is_live (node_at x j).state ≡ true → (node_at (with_begin p c x) j).state ≡ (node_at x j).state
    live_stays x j live = elim (p == x.me) as (λ b. (node_at (cond b (begun_part x c) x) j).state ≡ (node_at x j).state) [
      | true ↦ ap (λ n. n.state) (live_all x.peers (filter is_own c.with) x.nodes j live)
      | false ↦ refl
    ]

    -- the facts of a part of which the release notices speak
    pub begun_releases : (q : ℕ) (x : PeerPart) → IsPeer s q x → ReleasesRight (with_begin p c x)
    begun_releases q x is j = (
      begun_living q x is j,
      λ dead. ap (without (is_release_notice j)) (begun_queue x)
          ∙ without_none (is_release_notice j) x.queue (λ f there. false_from_ne_true (is_release_notice j f) (λ of.
          let live = noticed_live q x is j f there of in
          let both : true ≡ false = sym dead ∙ ap is_destroyed (live_stays x j live) ∙ live_not_destroyed (node_at x j).state live in
          absurd (cc both)))
          ∙ sym (begun_queue x),
    )

    pub begun_quiet : (q : ℕ) (x : PeerPart) → IsPeer s q x → (f : Key × Entry) → Has (with_begin p c x).queue f → is_staged f ≡ false
    begun_quiet q x is f there = rest.quiet.committed q x f is (subst (λ zs. Has zs f) (begun_queue x) there)

    pub begun_low : (q : ℕ) (x : PeerPart) → IsPeer s q x → (f : Key × Entry) → Has (with_begin p c x).queue f → f.0.stamp ≤ (with_begin p c x).clock
    begun_low q x is f there = subst (λ k. f.0.stamp ≤ k) (sym (begun_clock x)) (low q x f is (subst (λ zs. Has zs f) (begun_queue x) there))

    pub begun_odd : (q : ℕ) (x : PeerPart) → IsPeer s q x → is_odd ((with_begin p c x).clock + 1) ≡ true
    begun_odd q x is = ap (λ k. is_odd (k + 1)) (begun_clock x) ∙ eq-eqb ((x.clock + 1) % 2) 1 (let e = even_clock q x is in omega (arith, e))

    -- ---- the serial bus once the sender has made its nodes

    abbrev pub begun_bus : Bus
    begun_bus = at_peer p (making c.with) bus

    pub begun_there : (q : ℕ) (x : PeerPart) (w : DriverPart) → IsPeer s q x → IsDriver s q w → slice_get begun_bus q ≡ Some (part_of (with_begin p c x) w)
    begun_there q x w is is_w =
        read_change p q (making c.with) bus (part_of x w) (ap (λ b. slice_get b q) rest.is_bus ∙ bus_there s q x w is is_w)
        ∙ ap Some (ap (λ k. cond (p == k) (making c.with (part_of x w)) (part_of x w)) (sym (placed q x is)) ∙ by (p == x.me))
      where
        by : (b : Bool) → cond b (making c.with (part_of x w)) (part_of x w) ≡ part_of (cond b (begun_part x c) x) w
        by true = making_so c x w
        by false = refl

    -- a node that was made behind the begin
    pub made_there : (e : DriverPart) (node : NodeRef) → IsMade (midway s p e (with_begin p c)) node
        → (x : PeerPart) × (w : DriverPart) × (slice_get s.peers node.owner ≡ Some x) × (slice_get begun_bus node.owner ≡ Some (part_of (with_begin p c x) w))
        × (node.serial < length (with_begin p c x).nodes) × (is_dying (node_at (with_begin p c x) node.serial).state ≡ false)
    made_there e node made = by (slice_get s.peers node.owner) refl
      where
        by : (r : Option PeerPart) → slice_get s.peers node.owner ≡ r
            → (x : PeerPart) × (w : DriverPart) × (slice_get s.peers node.owner ≡ Some x) × (slice_get begun_bus node.owner ≡ Some (part_of (with_begin p c x) w))
            × (node.serial < length (with_begin p c x).nodes) × (is_dying (node_at (with_begin p c x) node.serial).state ≡ false)
        by None none = absurd (cc (sym made.1 ∙ slice_get-map (with_begin p c) s.peers node.owner ∙ ap (option_map (with_begin p c)) none))
        by (Some x) is =
            let same : with_begin p c x ≡ made.0 = same_Some (with_begin p c x) made.0 (sym (slice_get-map (with_begin p c) s.peers node.owner ∙ ap (option_map (with_begin p c)) is) ∙ made.1) in
            let w = driver_beside rest.numbered node.owner x is in
            (x, w.0, is, begun_there node.owner x w.0 is w.1, subst (λ z. node.serial < length z.nodes) (sym same) made.2, begun_living node.owner x is node.serial)
