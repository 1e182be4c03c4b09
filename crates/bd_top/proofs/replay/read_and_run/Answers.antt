use Rattle.bd_top.proofs.BuiltScripts.{script_built}
use Rattle.bd_top.proofs.replay.read_and_run.Goals as goal

pub run_script-requires-clause-built : goal.run_script-requires-clause-built
run_script-requires-clause-built g c = script_built c.in_ok-script.script c.in_ok-script.ensures.built
