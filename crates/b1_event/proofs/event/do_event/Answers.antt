use Rattle.b1_event.proofs.event.do_event.Goals as goal

pub returns-in-Begin : goal.returns-in-Begin
returns-in-Begin g c = c.begin.ensures c.args.opening.now

pub returns-in-Unstage : goal.returns-in-Unstage
returns-in-Unstage g c = c.unstage.ensures c.args.opening.now

pub returns-in-Attach : goal.returns-in-Attach
returns-in-Attach g c = c.attach.ensures c.args.opening.now

pub returns-in-Stamp : goal.returns-in-Stamp
returns-in-Stamp g c = c.stamp.ensures c.args.opening.now

pub returns-in-Sync : goal.returns-in-Sync
returns-in-Sync g c = c.sync.ensures c.args.opening.now

pub returns-in-Commit : goal.returns-in-Commit
returns-in-Commit g c = c.commit.ensures c.args.opening.now

pub returns-in-CommitNotices : goal.returns-in-CommitNotices
returns-in-CommitNotices g c = c.commit_notices.ensures c.args.opening.now

pub returns-in-Recv : goal.returns-in-Recv
returns-in-Recv g c = c.recv.ensures c.args.opening.now

pub returns-in-Reap : goal.returns-in-Reap
returns-in-Reap g c = c.reap.ensures c.args.opening.now

pub returns-in-Release : goal.returns-in-Release
returns-in-Release g c = c.release.ensures c.args.opening.now

pub returns-in-DropRefs : goal.returns-in-DropRefs
returns-in-DropRefs g c = c.drop_refs.ensures c.args.opening.now

pub returns-in-BeginDestroy : goal.returns-in-BeginDestroy
returns-in-BeginDestroy g c = c.begin_destroy.ensures c.args.opening.now

pub returns-in-Visit : goal.returns-in-Visit
returns-in-Visit g c = c.visit.ensures c.args.opening.now

pub returns-in-StampDestroy : goal.returns-in-StampDestroy
returns-in-StampDestroy g c = c.stamp_destroy.ensures c.args.opening.now

pub returns-in-Flush : goal.returns-in-Flush
returns-in-Flush g c = c.flush.ensures c.args.opening.now

pub returns-in-Local : goal.returns-in-Local
returns-in-Local g c = c.local.ensures c.args.opening.now
