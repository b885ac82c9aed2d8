use Rattle.std.proofs.Common.{◌≡◌, List, ◌∷◌, get_or, take, drop, length, ◌-◌, ap, sym, subst, ◌∙◌}
use Rattle.b1_model.specs.declared.naming.NodeRef.{NodeRef}
use Rattle.b1_model.specs.MachineTables.{foreign, unexpected}
use Rattle.b1_handles.specs.Handles.{Handles}
use Rattle.b1_peer_carried.specs.Carry.{AreCarried}
use Rattle.b1_peer_carried.proofs.Left.{peeled, unexpected_more, carried_more}
use Rattle.b1_peer_carried.proofs.carry.unexpect_all.Goals as goal

pub loop-left-preserved-then-node-me : goal.loop-left-preserved-then-node-me
loop-left-preserved-then-node-me c =
    let left = c.loop-left.left.now in
    let node : NodeRef = get_or left 0 (record { owner = 0; serial = 0 }) in
    let rest : List NodeRef = take (length left - 1) (drop 1 left) in
    let is : left ≡ node ∷ rest = peeled left (record { owner = 0; serial = 0 }) c.in-len1-up.len_at_least in
    record {
      records =
          ap (λ (t : Handles). unexpected (foreign c.args.me rest) t.records) c.unexpect.ensures
          ∙ sym (unexpected_more c.args.me left rest node c.loop-left.handles.records is c.if-node-me.true)
          ∙ c.loop-left.invariant.records;
      given = ap (λ (t : Handles). t.given) c.unexpect.ensures ∙ c.loop-left.invariant.given;
      carried =
          subst (λ (t : Handles). AreCarried (foreign c.args.me rest) t.records) (sym c.unexpect.ensures)
          (carried_more c.args.me left rest node c.loop-left.handles.records is c.if-node-me.true c.loop-left.invariant.carried);
    }
