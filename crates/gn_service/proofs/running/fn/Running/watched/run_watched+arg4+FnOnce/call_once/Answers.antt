use denote.Exit.{yes}
use denote.Param.Send.{arg_send, arg_sync, copied_send, copied_sync, param_send, param_sync}
use Rattle.gn_service.proofs.running.fn.Running.watched.run_watched+arg4+FnOnce.call_once.Goals as goal

pub run_watched+arg4-requires : goal.run_watched+arg4-requires
run_watched+arg4-requires g c =
    let bounds = c.requires.1.1.1.1.1.1.1 in (
      param_send _ _ (arg_send _ yes _ bounds.0),
      (
        param_send _ _ (arg_send _ yes _ bounds.1),
        (
          copied_send _ _ (arg_send _ yes _ bounds.2),
          (
            param_send _ _ (arg_send _ yes _ bounds.3),
            (
              param_sync _ _ (arg_sync _ yes _ bounds.4),
              (
                param_sync _ _ (arg_sync _ yes _ bounds.5),
                (
                  copied_sync _ _ (arg_sync _ yes _ bounds.6),
                  bounds.7,
                ),
              ),
            ),
          ),
        ),
      ),
    )
