use Rattle.std.proofs.Common.{rules, ◌∙◌, ap, sym, max}
use Rattle.b1_port_memory.proofs.Counts.{even_max, low_max, one_stamp_more, sends_grow}
use Rattle.b1_port_memory.proofs.book.Book.add.Goals as goal

pub invariant_of-self : goal.invariant_of-self
invariant_of-self c =
    let items = c.put_last.ensures.items in
    let stamp = c.greater-self-inside.ensures in
    record {
      few = search rules;
      sends = rw items (sends_grow c.args.command c.args.answer c.self.inside.calls.items c.self.inside.sends _ c.self.invariant.sends c.counted-self-inside.ensures);
      greatest = rw items (stamp ∙ ap (max _) c.self.invariant.greatest ∙ sym (one_stamp_more c.args.command c.args.answer _));
      even = rw stamp (even_max _ _ c.requires.even c.self.invariant.even);
      low = rw (items, stamp) (low_max _ _ c.self.inside.calls.items c.args.command c.args.answer (search rules) c.self.invariant.low);
    }
