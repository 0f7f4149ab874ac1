use Rattle.std.proofs.Common.{◌≡◌, sym}
use Rattle.session.proofs.program_run.program.Goals as goal

pub returns-in-None-clause-run : goal.returns-in-None-clause-run
returns-in-None-clause-run g c = rw (sym c.in-None.ensures.value) (record {
  text = c.run.ensures.text;
  dumped = c.run.ensures.dumped;
  symbols_given = c.run.ensures.symbols_given;
  script_given = c.run.ensures.script_given;
  most_symbols = c.run.ensures.most_symbols;
  most_script_taken = c.run.ensures.most_script;
  whole_lines = c.run.ensures.whole_lines;
  whole_dumps = c.run.ensures.whole_dumps;
  exact_status = c.run.ensures.exact_status;
  exact_text = c.run.ensures.exact_text;
  exact_dumped = c.run.ensures.exact_dumped;
  exact_symbols = c.run.ensures.exact_symbols;
  exact_script = c.run.ensures.exact_script;
  image_fault = c.run.ensures.image_fault;
  symbols_fault = c.run.ensures.symbols_fault;
  script_fault = c.run.ensures.script_fault;
  out_fault = c.run.ensures.out_fault;
  dump_fault = c.run.ensures.dump_fault;
  layer_view = c.run.ensures.layer_view;
  exact_layer = c.run.ensures.exact_layer;
  layer_calls = c.run.ensures.layer_calls;
  complete = c.run.ensures.complete;
})
