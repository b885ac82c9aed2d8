-- What each call did is what the step does.
use Rattle.std.proofs.Common.{suc, refl, subst, sym}
use Rattle.std.proofs.lemmas.Option.{slice_get_read}
use Rattle.b1_model.specs.Ledger.{slots_by}
use Rattle.b1_judge_facts.specs.Kept.{kept_at, Keeps, Marks, Adds, kept_nodes}
use Rattle.b1_judge_facts.specs.Gathering.{Reaches}
use Rattle.std.specs.Prelude.{slice_get, ◌≡◌, ◌<◌, length, Some}
use Rattle.b1_judge_facts.proofs.gather.Gathering.take.Goals as goal

pub reach-requires-clause-ahead : goal.reach-requires-clause-ahead
reach-requires-clause-ahead c = c.requires.ahead c.index_mut-pace.result.now (slice_get_read c.args.self.now.paces.items _ c.args.stamp.now.origin c.index_mut-pace.result.now refl c.requires.peer c.index_mut-pace.ensures.value)

pub returns : goal.returns
returns c = record {
  pace = c.index_mut-pace.result.now;
  reached = c.reach.new.self;
  next = record { standing = c.reach.new.self.standing; call = c.reach.new.self.call; gone = c.mark_gone.new.gone };
  call = c.index-calls-stamp.result;
  pace_at = slice_get_read c.args.self.now.paces.items _ c.args.stamp.now.origin c.index_mut-pace.result.now refl c.requires.peer c.index_mut-pace.ensures.value;
  call_at = subst (λ cs. slice_get cs c.args.stamp.now.call ≡ Some c.index-calls-stamp.result) c.calls_of-calls.ensures (slice_get_read c.calls_of-calls.result.now _ c.args.stamp.now.call c.index-calls-stamp.result refl (subst (λ cs. c.args.stamp.now.call < length cs) (sym c.calls_of-calls.ensures) c.requires.call) c.index-calls-stamp.is);
  reaches = subst (λ cs. Reaches (slots_by (kept_at c.args.self.now.messages) c.args.stamp.now.origin) cs (suc c.args.stamp.now.call) c.index_mut-pace.result.now c.reach.new.self) c.calls_of-calls.ensures c.in_ok-reach.ensures;
  messages_are = subst (λ m. Keeps c.args.stamp.now.stamp c.args.stamp.now.origin m c.args.self.now.messages c.keep_message.new.messages) c.in_ok-message.ensures c.in_ok-keep_message.ensures;
  nodes = c.in_ok-nodes.nodes;
  nodes_are = c.in_ok-nodes.ensures.nodes;
  destroyed_are = c.in_ok-keep_nodes.ensures;
  first_are = subst (λ l. Marks c.args.stamp.now.stamp c.args.stamp.now.origin l c.args.self.now.first c.mark_first.new.first) c.nodes_of-2.ensures c.in_ok-mark_first.ensures;
  gone_are = subst (λ g. Adds (kept_nodes c.in_ok-nodes.nodes) g c.mark_gone.new.gone) c.in_ok-nodes.ensures.gone (subst (λ l. Adds l c.doomed_by.new.gone c.mark_gone.new.gone) c.nodes_of.ensures c.in_ok-mark_gone.ensures);
  same_standing = refl;
  same_call = refl;
  paces_are = refl;
  rec_is = refl;
}
