use Rattle.std.proofs.Common.{◌≡◌, ℕ, ◌+◌, ◌≤◌, take, drop, replicate, refl, sym, subst, ◌∙◌, arith, length-take}
use Rattle.std.proofs.lemmas.List.{take-append-le}
use Rattle.std.proofs.lemmas.Option.{IfSome_then}
use Rattle.std.specs.Io.KnownBytes.{Appends}
use Rattle.layer_base.specs.View.{physical}
use Rattle.space_memory.specs.InSpace.{in_space}
use Rattle.session.specs.Dump.{dumped_bytes}
use Rattle.session.specs.Dumped.{count_of}
use Rattle.session.proofs.Dumps.{dumped-hole, absent-hole, dumped-present, absent-present, run-cut, hole-run, sink-image, sink-out, WritesOver-failed}
use Rattle.session.proofs.dump.dump_run.Goals as goal

pub returns-in_ok-write_hole-in-Absent-clause-writes : goal.returns-in_ok-write_hole-in-Absent-clause-writes
returns-in_ok-write_hole-in-Absent-clause-writes g c =
    let at = c.args.place.at in
    let last = c.in-Absent.last in
    let n = c.min-count.result + 1 in
    let within : at ≤ last = rw c.in-Absent.is at c.in_ok-count.ensures.within in
    record {
      text = IfSome_then c.args.memory.now.view c.in_ok-count.ensures.run (λ view run.
          let memory = in_space (physical view) c.args.place.space in
          let hole = hole-run memory at last n (rw c.in-Absent.is at run) (omega (arith, c.min-count.ensures)) in
          subst (Appends (g.D.Sink.written c.args.dump.now) (g.D.Sink.written c.write_hole.new.dump)) (sym (dumped-hole memory at n hole)) c.in_ok-write_hole-in-Absent.ensures.bytes);
      memory = c.run_at.ensures.memory;
      image = record { kept = c.run_at.ensures.cause.kept; rose = λ failed. absurd (cc failed) };
      out = record { kept = c.write_hole.ensures.cause.kept; rose = λ failed. absurd (cc failed) };
    }

pub returns-in_ok-write_hole-in-Absent-clause-absent : goal.returns-in_ok-write_hole-in-Absent-clause-absent
returns-in_ok-write_hole-in-Absent-clause-absent g c =
    let at = c.args.place.at in
    let last = c.in-Absent.last in
    let n = c.min-count.result + 1 in
    let within : at ≤ last = rw c.in-Absent.is at c.in_ok-count.ensures.within in
    IfSome_then c.args.memory.now.view c.in_ok-count.ensures.run (λ view run.
    let memory = in_space (physical view) c.args.place.space in
    sym (absent-hole memory at n (hole-run memory at last n (rw c.in-Absent.is at run) (omega (arith, c.min-count.ensures)))))

pub returns-in_err-write_hole-in-Absent-clause-writes : goal.returns-in_err-write_hole-in-Absent-clause-writes
returns-in_err-write_hole-in-Absent-clause-writes g c =
    let at = c.args.place.at in
    let last = c.in-Absent.last in
    let n = c.min-count.result + 1 in
    let within : at ≤ last = rw c.in-Absent.is at c.in_ok-count.ensures.within in
    let failed = c.from_residual-in_err-write_hole-in-Absent in
    record {
      text = IfSome_then c.args.memory.now.view c.in_ok-count.ensures.run (λ view run.
          let memory = in_space (physical view) c.args.place.space in
          let hole = hole-run memory at last n (rw c.in-Absent.is at run) (omega (arith, c.min-count.ensures)) in
          run-cut _ _ memory at n c.args.most (replicate n 0) failed.result failed.ensures.0 (omega (arith, c.min-count.ensures)) (dumped-hole memory at n hole) c.in_err-write_hole-in-Absent.ensures.bytes);
      memory = c.run_at.ensures.memory;
      image = sink-image _ _ c.in_err-write_hole-in-Absent.field-0.0 failed.result failed.ensures.1 c.run_at.ensures.cause.kept;
      out = sink-out _ _ c.in_err-write_hole-in-Absent.field-0.0 failed.result failed.ensures.1 c.in_err-write_hole-in-Absent.ensures.cause;
    }

pub returns-in_ok-write_whole-in-Present-clause-writes : goal.returns-in_ok-write_whole-in-Present-clause-writes
returns-in_ok-write_whole-in-Present-clause-writes g c =
    let at = c.args.place.at in
    let count = c.in-Present.count in
    let buf = c.run_at.new.buf in
    let few = rw c.in-Present.is at c.in_ok-count.ensures.within in
    let front = take-append-le count buf (drop c.room_within-room.result c.args.buf.now) (omega (arith, few.1, c.run_at.auto.buf)) in
    record {
      text = IfSome_then c.args.memory.now.view c.in_ok-count.ensures.run (λ view run.
          let memory = in_space (physical view) c.args.place.space in
          let present = dumped-present memory at count (take count buf) (rw c.in-Present.is at run) in
          subst (Appends (g.D.Sink.written c.args.dump.now) (g.D.Sink.written c.write_whole.new.out)) (front ∙ sym present) c.in_ok-write_whole-in-Present.ensures.bytes);
      memory = c.run_at.ensures.memory;
      image = record { kept = c.run_at.ensures.cause.kept; rose = λ failed. absurd (cc failed) };
      out = record { kept = c.write_whole.ensures.cause.kept; rose = λ failed. absurd (cc failed) };
    }

pub returns-in_err-write_whole-in-Present-clause-writes : goal.returns-in_err-write_whole-in-Present-clause-writes
returns-in_err-write_whole-in-Present-clause-writes g c =
    let at = c.args.place.at in
    let count = c.in-Present.count in
    let buf = c.run_at.new.buf in
    let few = rw c.in-Present.is at c.in_ok-count.ensures.within in
    let front = take-append-le count buf (drop c.room_within-room.result c.args.buf.now) (omega (arith, few.1, c.run_at.auto.buf)) in
    let failed = c.from_residual-in_err-write_whole-in-Present in
    let within : count ≤ c.args.most = omega (arith, few.1, c.requires.some, c.room_within-room.ensures, length-take {A = ℕ} c.room_within-room.result c.args.buf.now) in
    record {
      text = IfSome_then c.args.memory.now.view c.in_ok-count.ensures.run (λ view run.
          let memory = in_space (physical view) c.args.place.space in
          let present = dumped-present memory at count (take count buf) (rw c.in-Present.is at run) in
          run-cut _ _ memory at count c.args.most _ failed.result failed.ensures.0 within (present ∙ sym front) c.in_err-write_whole-in-Present.ensures.bytes);
      memory = c.run_at.ensures.memory;
      image = sink-image _ _ c.in_err-write_whole-in-Present.field-0.0 failed.result failed.ensures.1 c.run_at.ensures.cause.kept;
      out = sink-out _ _ c.in_err-write_whole-in-Present.field-0.0 failed.result failed.ensures.1 c.in_err-write_whole-in-Present.ensures.cause;
    }

pub returns-in_ok-write_whole-in-Present-clause-absent : goal.returns-in_ok-write_whole-in-Present-clause-absent
returns-in_ok-write_whole-in-Present-clause-absent g c =
    let at = c.args.place.at in
    let count = c.in-Present.count in
    IfSome_then c.args.memory.now.view c.in_ok-count.ensures.run (λ view run.
    let memory = in_space (physical view) c.args.place.space in
    sym (absent-present memory at count _ (rw c.in-Present.is at run)))

pub returns-in_err-count-clause-writes : goal.returns-in_err-count-clause-writes
returns-in_err-count-clause-writes g c =
    WritesOver-failed g.D.Sink.written g.D.Sink.faults c.args.dump.now c.args.memory.now c.run_at.new.self (λ memory. dumped_bytes (in_space memory c.args.place.space) c.args.place.at (count_of c.args.most c.from_residual.result)) c.from_residual.result
    c.from_residual.ensures.1 c.run_at.ensures.memory (c.in_err-count.ensures.cause.rose refl)
