use Rattle.std.proofs.Common.{◌≡◌, ℕ, ◌+◌, ◌-◌, List, subst, sym, ◌∙◌, ap, arith}
use Rattle.std.specs.Prelude.{IfSome}
use Rattle.std.specs.Io.{StartsWith}
use Rattle.layer_base.specs.AddressSpace.{AddressSpace}
use Rattle.layer_base.specs.View.{physical}
use Rattle.layer_base.proofs.Appending.{StartsWith-same}
use Rattle.space_memory.specs.InSpace.{in_space}
use Rattle.space_memory.proofs.Writers.{HasWritten-none, HasWritten-more, HasWritten-cut}
use Rattle.session.specs.Dump.{dumped_bytes, absent_bytes}
use Rattle.session.proofs.Dumps.{dumped-none, absent-none, dumped-add, absent-add, WritesOver-fault}
use Rattle.session.proofs.Told.{IfSome-always, IfSome-both}
use Rattle.session.proofs.dump.dump_bytes.Goals as goal

pub loop-done-init : goal.loop-done-init
loop-done-init g c =
    let at = c.args.place.at in
    let space = c.args.place.space in
    record {
      so_far = HasWritten-none g.D.Sink.written g.D.Sink.faults c.args.dump.now c.args.memory.now (λ memory. dumped_bytes (in_space memory space) at 0) (λ memory. dumped-none (in_space memory space) at);
      counted = IfSome-always c.args.memory.now.view (λ view. sym (absent-none (in_space (physical view) space) at));
      few = omega arith;
      within = omega arith;
    }

pub loop-done-preserved : goal.loop-done-preserved
loop-done-preserved g c =
    let at = c.args.place.at in
    let space = c.args.place.space in
    let done = c.loop-done.done in
    let passed = c.in_ok-passed.passed in
    let so_far = c.loop-done.invariant.so_far in
    let counted : IfSome c.args.memory.now.view (λ view. passed.absent ≡ absent_bytes (in_space (physical view) space) (at + done) passed.count) = rw so_far.memory.same_view at c.in_ok-passed.ensures.absent in
    record {
      so_far = HasWritten-more g.D.Sink.written g.D.Sink.faults c.args.dump.now c.args.memory.now c.loop-done.dump c.dump_run.new.dump c.loop-done.memory c.dump_run.new.memory _ _
          (λ memory. dumped_bytes (in_space memory space) at done) (λ memory. dumped_bytes (in_space memory space) (at + done) passed.count) (λ memory. dumped_bytes (in_space memory space) at (done + passed.count))
          so_far _ (λ memory. dumped-add (in_space memory space) at done passed.count) c.in_ok-passed.ensures.writes;
      counted = IfSome-both c.args.memory.now.view c.loop-done.invariant.counted counted (λ view before more.
          ap (λ n. n + passed.absent) before ∙ ap (λ n. absent_bytes (in_space (physical view) space) at done + n) more ∙ sym (absent-add (in_space (physical view) space) at done passed.count));
      few = omega (arith, c.loop-done.invariant.few, c.in_ok-passed.ensures.few);
      within = omega (arith, c.in_ok-passed.ensures.most);
    }

pub returns-in_err-passed-clause-writes : goal.returns-in_err-passed-clause-writes
returns-in_err-passed-clause-writes g c =
    let at = c.args.place.at in
    let space = c.args.place.space in
    let done = c.loop-done.done in
    let len = c.args.len in
    let rest = c.args.len - c.loop-done.done in
    let whole : len ≡ done + rest = omega arith in
    let piece : AddressSpace → List ℕ = λ memory. dumped_bytes (in_space memory space) (at + done) rest in
    HasWritten-cut g.D.Sink.written g.D.Sink.faults c.args.dump.now c.args.memory.now c.loop-done.dump c.dump_run.new.dump c.loop-done.memory c.dump_run.new.memory _ _
    (λ memory. dumped_bytes (in_space memory space) at done) piece (λ memory. dumped_bytes (in_space memory space) at len)
    c.loop-done.invariant.so_far c.in_err-passed.field-0.0 c.from_residual.result c.from_residual.ensures.1
    (λ memory.
    let bytes = in_space memory space in
    subst (StartsWith (dumped_bytes bytes at len)) (ap (dumped_bytes bytes at) whole ∙ dumped-add bytes at done rest) (StartsWith-same (dumped_bytes bytes at len)))
    (WritesOver-fault g.D.Sink.written g.D.Sink.faults c.loop-done.dump c.dump_run.new.dump c.loop-done.memory c.dump_run.new.memory _ _ c.in_err-passed.field-0.0 piece c.in_err-passed.ensures.writes)
