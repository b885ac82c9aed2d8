use Rattle.std.proofs.Common.{sym}
use Rattle.b1_model.specs.declared.answers.Quantity.TheVariants.{Entries, Bytes, Handles}
use Rattle.b1_peer_queue.proofs.ChargeLemmas.{chargeable_parts}
use Rattle.b1_peer_queue.proofs.charges.end_charge.Goals as goal

pub discharge-requires-clause-entries : goal.discharge-requires-clause-entries
discharge-requires-clause-entries c = chargeable_parts c.args.quota.now.accounts c.args.entry.now c.in-Some.user c.in-Some.charge c.requires.chargeable (sym c.in-Some.ensures) Entries

pub discharge-requires-clause-bytes : goal.discharge-requires-clause-bytes
discharge-requires-clause-bytes c = chargeable_parts c.args.quota.now.accounts c.args.entry.now c.in-Some.user c.in-Some.charge c.requires.chargeable (sym c.in-Some.ensures) Bytes

pub discharge-requires-clause-handles : goal.discharge-requires-clause-handles
discharge-requires-clause-handles c = chargeable_parts c.args.quota.now.accounts c.args.entry.now c.in-Some.user c.in-Some.charge c.requires.chargeable (sym c.in-Some.ensures) Handles
