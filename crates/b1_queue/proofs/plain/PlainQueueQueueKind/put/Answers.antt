use Rattle.std.proofs.Common.{◌∙◌, arith}
use Rattle.b1_queue.proofs.Entries.{placed}
use Rattle.b1_queue.proofs.Kept.{kept_put}
use Rattle.b1_queue.proofs.plain.PlainQueueQueueKind.put.Goals as goal

pub invariant_of-self : goal.invariant_of-self
invariant_of-self c =
    let fits = c.args.self.now.kept.fits in
    record {
      kept =
          rw (
            c.in-Ok.ensures.items,
            placed c.args.key c.args.item c.args.self.now.entries.items c.place_of-at.result c.requires.new_key c.place_of-at.ensures.within c.place_of-at.ensures.before c.place_of-at.ensures.after,
          )
          (kept_put _ _ _ _ _ c.args.self.now.kept _ _ _ (omega (arith, c.in-Ok.ensures.len, c.in-Ok.ensures.capacity, c.requires.spare, fits)) c.args.key c.args.item c.requires.in_room c.requires.new_key c.requires.new_item);
    }

pub returns-clause-listed : goal.returns-clause-listed
returns-clause-listed c =
    c.in-Ok.ensures.items
    ∙ placed c.args.key c.args.item c.args.self.now.entries.items c.place_of-at.result c.requires.new_key c.place_of-at.ensures.within c.place_of-at.ensures.before c.place_of-at.ensures.after
