use Rattle.std.proofs.Common.{◌≡◌, ◌<◌, ◌≤◌, ◌+◌, ◌-◌, ◌^◌, ◌∷◌, All, List, true, length, get_or, take, drop, ap, sym, subst, ◌∙◌, arith, rules}
use Rattle.std.specs.Prelude.{fold, zip}
use Rattle.std.proofs.lemmas.List.Elements.{All-head, All-tail, All-weaker}
use Rattle.b1_model.specs.declared.naming.NodeRef.{NodeRef}
use Rattle.b1_model.specs.declared.parts.Slot.{Slot}
use Rattle.b1_model.specs.declared.parts.Slot.TheVariants as slot
use Rattle.b1_model.specs.MachineParts.{HandleRecord}
use Rattle.b1_model.specs.MachineTables.{foreign}
use Rattle.b1_model.specs.MachineReceive.{Arriving, slot_arrives}
use Rattle.b1_peer_dead.proofs.Lists.{zip_short}
use Rattle.b1_peer_carried.specs.Carry.{AreCarried, arriving, may_arrive}
use Rattle.b1_peer_carried.proofs.Records.{held_record}
use Rattle.b1_peer_carried.proofs.Left.{peeled, zip_peeled}
use Rattle.b1_peer_carried.proofs.slots.arrive.Goals as goal

pub arrive_one-requires-clause-may_arrive : goal.arrive_one-requires-clause-may_arrive
arrive_one-requires-clause-may_arrive c =
    let left = c.loop-left.left.now in
    let rest = c.loop-left.rest.now in
    let nodes : List NodeRef = take (length left - 1) (drop 1 left) in
    let slots : List Slot = take (length rest - 1) (drop 1 rest) in
    let some_left : 1 ≤ length left = search rules in
    let some_rest : 1 ≤ length rest = search rules in
    let node : NodeRef = get_or left 0 (record { owner = 0; serial = 0 }) in
    let one : Slot = get_or rest 0 slot.Unattached in
    let is : zip left rest ≡ (node, one) ∷ zip nodes slots = zip_peeled left nodes rest slots node one (peeled left (record { owner = 0; serial = 0 }) some_left) (peeled rest slot.Unattached some_rest) in
    let may = λ (p : NodeRef × Slot). may_arrive c.args.me (length c.args.nodes.now.nodes) p ≡ true in
    All-head may (node, one) (zip nodes slots) (subst (All may) is c.loop-left.invariant.may_arrive)

pub arrive_one-requires-clause-fits : goal.arrive_one-requires-clause-fits
arrive_one-requires-clause-fits c =
    let low = held_record (get_or c.loop-left.left.now 0 (record { owner = 0; serial = 0 })) (2 ^ 62 + length c.args.carried.now + 1 - length c.loop-left.left.now) c.loop-left.handles.records (omega (arith, c.loop-left.invariant.few)) c.loop-left.invariant.fits in
    omega (arith, low, c.requires.few)

pub returns-in_default-2-clause-arrived : goal.returns-in_default-2-clause-arrived
returns-in_default-2-clause-arrived c = λ x has.
    let short : length c.loop-left.rest.now < 1 = search rules in
    sym (c.loop-left.invariant.arrived x has)
    ∙ ap (fold slot_arrives (arriving x c.loop-left.handles c.loop-left.numbers.items c.loop-left.refs.items)) (zip_short c.loop-left.left.now c.loop-left.rest.now short)

pub loop-left-preserved : goal.loop-left-preserved
loop-left-preserved c =
    let left = c.loop-left.left.now in
    let rest = c.loop-left.rest.now in
    let nodes : List NodeRef = take (length left - 1) (drop 1 left) in
    let slots : List Slot = take (length rest - 1) (drop 1 rest) in
    let some_left : 1 ≤ length left = search rules in
    let some_rest : 1 ≤ length rest = search rules in
    let node : NodeRef = get_or left 0 (record { owner = 0; serial = 0 }) in
    let one : Slot = get_or rest 0 slot.Unattached in
    let keys : left ≡ node ∷ nodes = peeled left (record { owner = 0; serial = 0 }) some_left in
    let is : zip left rest ≡ (node, one) ∷ zip nodes slots = zip_peeled left nodes rest slots node one keys (peeled rest slot.Unattached some_rest) in
    let may = λ (p : NodeRef × Slot). may_arrive c.args.me (length c.args.nodes.now.nodes) p ≡ true in
    let fewer : length left ≡ length nodes + 1 = ap length keys ∙ omega arith in
    let most = 2 ^ 62 + length c.args.carried.now + 1 - length left in
    let held : All (λ h. h.held < most + 1) c.arrive_one.new.handles.records = c.arrive_one.ensures.held most c.loop-left.invariant.fits in
    let low : most + 1 ≤ 2 ^ 62 + length c.args.carried.now + 1 - length nodes = omega (arith, fewer, c.loop-left.invariant.few) in
    record {
      arrived = λ x has.
          ap (λ (a : Arriving). fold slot_arrives a (zip nodes slots)) (sym (c.arrive_one.ensures.arrived x has.me has.nodes))
          ∙ sym (ap (fold slot_arrives (arriving x c.loop-left.handles c.loop-left.numbers.items c.loop-left.refs.items)) is)
          ∙ c.loop-left.invariant.arrived x has;
      may_arrive = All-tail may (node, one) (zip nodes slots) (subst (All may) is c.loop-left.invariant.may_arrive);
      carried = c.arrive_one.ensures.carried nodes (subst (λ (ns : List NodeRef). AreCarried (foreign c.args.me ns) c.loop-left.handles.records) keys c.loop-left.invariant.carried);
      fits =
          All-weaker (λ (h : HandleRecord). h.held < most + 1) (λ (h : HandleRecord). h.held < 2 ^ 62 + length c.args.carried.now + 1 - length nodes)
          (λ h is_low. omega (arith, is_low, low)) c.arrive_one.new.handles.records held;
      few = omega (arith, fewer, c.loop-left.invariant.few);
      numbered = omega (arith, fewer, c.loop-left.invariant.numbered, c.arrive_one.ensures.given);
      room_numbers = omega (arith, fewer, c.loop-left.invariant.room_numbers, c.arrive_one.ensures.len_numbers, c.arrive_one.ensures.capacity_numbers);
      room_refs = omega (arith, fewer, c.loop-left.invariant.room_refs, c.arrive_one.ensures.len_refs, c.arrive_one.ensures.capacity_refs);
      capacity_numbers = omega (arith, c.loop-left.invariant.capacity_numbers, c.arrive_one.ensures.capacity_numbers);
      capacity_refs = omega (arith, c.loop-left.invariant.capacity_refs, c.arrive_one.ensures.capacity_refs);
    }
