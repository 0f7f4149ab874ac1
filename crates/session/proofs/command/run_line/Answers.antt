use Rattle.std.proofs.Common.{rules, arith}
use Rattle.std.proofs.lemmas.Grind.{common_steps}
use Rattle.session.proofs.command.run_line.Goals as goal

pub returns-in_err-write_fault-in-Err : goal.returns-in_err-write_fault-in-Err
returns-in_err-write_fault-in-Err g c = record {
  text = grind (arith, common_steps);
  dumped = grind (arith, common_steps);
  flow = search rules;
  memory = search rules;
  kept = search rules;
  file = search rules;
  image = grind (arith, common_steps);
  out = grind (arith, common_steps);
  dump = grind (arith, common_steps);
}
