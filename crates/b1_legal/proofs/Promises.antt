-- What is promised of every step from a reached state, and of every reached state.
use Rattle.b1_model.specs.declared.naming.Opening.{Opening}
use Rattle.b1_model.specs.Opening.{IsOpening}
use Rattle.b1_model.specs.MachineParts.{State}
use Rattle.b1_model.specs.MachineStep.{Reached}
use Rattle.b1_law.proofs.Reached.{reached_sound}
use Rattle.b1_inv_due.proofs.Due.{only_live, release_due}
use Rattle.b1_inv_ends.proofs.Late.{late_by_attach}
use Rattle.b1_inv_ends.proofs.Needed.{queues_need_all}
use Rattle.b1_inv_ends.proofs.Once.{one_notice, notices_once}
use Rattle.b1_inv_ends.proofs.Refused.{refused_leaves_nothing}
use Rattle.b1_inv_ends.proofs.Served.{holders_served}
use Rattle.b1_inv_next.proofs.Shown.{again, takes}
use Rattle.b1_legal.specs.Promises.{StepsKeepPromises, StateKeepsPromises}
use Rattle.b1_legal.proofs.Reached.{reached_right}

pub steps_promised : (o : Opening) (s : State) → IsOpening o → Reached o s → StepsKeepPromises o s
steps_promised o s valid reached p c t step =
    let sound = reached_sound o s valid reached in
    let right = reached_right o s valid reached in
    record {
      due = λ node live. release_due sound right step node live;
      shown = λ front recv none. again sound right step recv front none;
      taken = λ got recv is. takes sound step recv got is;
      notice = one_notice sound right step;
      late = late_by_attach sound step;
    }

pub state_promised : (o : Opening) (s : State) → IsOpening o → Reached o s → StateKeepsPromises o s
state_promised o s valid reached =
    let sound = reached_sound o s valid reached in
    let right = reached_right o s valid reached in
    record {
      live = only_live o s right;
      once = notices_once sound right;
      served = holders_served sound right;
      refused = refused_leaves_nothing sound right;
      needed = queues_need_all sound right;
    }
