use Rattle.std.proofs.Common.{sym, refl, length}
use Rattle.std.proofs.lemmas.Option.{slice_get_past, slice_get_read}
use Rattle.b1_script.proofs.Found.{found_none, found_call, found_past}
use Rattle.b1_script.proofs.resolving.data_at.Goals as goal

pub returns-in-Some-get : goal.returns-in-Some-get
returns-in-Some-get c = found_call c.args.calls.now c.args.places.now c.requires c.args.index c.in-Some.place.now (slice_get_read c.args.places.now (length c.args.places.now) c.args.index c.in-Some.place.now refl c.in-Some.ensures.lookup.3.0 c.in-Some.ensures.lookup.1) c.in-Some-get.call.now c.data.result (slice_get_read c.args.calls.now (length c.args.calls.now) c.in-Some.place.now c.in-Some-get.call.now refl c.in-Some-get.ensures.lookup.3.0 c.in-Some-get.ensures.lookup.1) c.data.ensures

pub returns-in-None-get : goal.returns-in-None-get
returns-in-None-get c = sym (found_past c.args.calls.now c.args.places.now c.requires c.args.index c.in-Some.place.now (slice_get_read c.args.places.now (length c.args.places.now) c.args.index c.in-Some.place.now refl c.in-Some.ensures.lookup.3.0 c.in-Some.ensures.lookup.1) (slice_get_past c.args.calls.now c.in-Some.place.now c.in-None-get.ensures.lookup.3))

pub returns-in-None : goal.returns-in-None
returns-in-None c = sym (found_none c.args.calls.now c.args.places.now c.requires c.args.index (slice_get_past c.args.places.now c.args.index c.in-None.ensures.lookup.3))
