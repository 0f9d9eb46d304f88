use denote.Param.Send.{arg_send, param_send}
use Rattle.gn_threads.proofs.arriving.fn.run_bodies.bodies.Goals as goal

pub run_to_end-requires-send-B : goal.run_to_end-requires-send-B
run_to_end-requires-send-B g c = λ κs within. param_send _ _ (arg_send _ _ _ c.requires.1.1.1.1.1.1.1.1.1.1.1.0)

pub run_to_end-requires-send-C : goal.run_to_end-requires-send-C
run_to_end-requires-send-C g c = λ κs within. param_send _ _ (arg_send _ _ _ c.requires.1.1.1.1.1.1.1.1.1.1.1.1)

pub run_to_end-requires-send-V-Reader : goal.run_to_end-requires-send-V-Reader
run_to_end-requires-send-V-Reader g c = λ κs within. param_send _ _ (arg_send _ _ _ c.requires.1.1.1.1.1.1.1.1.1.1.1.3)

pub run_to_end-requires-send-V-Writer : goal.run_to_end-requires-send-V-Writer
run_to_end-requires-send-V-Writer g c = λ κs within. param_send _ _ (arg_send _ _ _ c.requires.1.1.1.1.1.1.1.1.1.1.1.4)

pub run_to_end-requires-frees-A-Allocator : goal.run_to_end-requires-frees-A-Allocator
run_to_end-requires-frees-A-Allocator g c = λ κs within. c.requires.1.1.1.1.1.1.1.1.1.1.1.9
