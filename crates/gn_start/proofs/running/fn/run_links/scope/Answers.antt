use denote.Param.Send.{arg_send, param_send}
use Rattle.gn_start.proofs.running.fn.run_links.scope.Goals as goal

pub run-requires-send-C : goal.run-requires-send-C
run-requires-send-C g c = λ κs within. param_send _ _ (arg_send _ _ _ c.requires.1.1.1.1.1.1.1.1.1.1.1.1)

pub run-requires-send-B : goal.run-requires-send-B
run-requires-send-B g c = λ κs within. param_send _ _ (arg_send _ _ _ c.requires.1.1.1.1.1.1.1.1.1.1.1.0)

pub run-requires-send-V-Reader : goal.run-requires-send-V-Reader
run-requires-send-V-Reader g c = λ κs within. param_send _ _ (arg_send _ _ _ c.requires.1.1.1.1.1.1.1.1.1.1.1.3)

pub run-requires-send-V-Writer : goal.run-requires-send-V-Writer
run-requires-send-V-Writer g c = λ κs within. param_send _ _ (arg_send _ _ _ c.requires.1.1.1.1.1.1.1.1.1.1.1.4)

pub run-requires-frees-A-Allocator : goal.run-requires-frees-A-Allocator
run-requires-frees-A-Allocator g c = λ κs within. c.requires.1.1.1.1.1.1.1.1.1.1.1.9
