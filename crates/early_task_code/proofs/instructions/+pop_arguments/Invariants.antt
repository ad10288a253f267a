use Rattle.early_task_code.proofs.instructions.+pop_arguments.Given as goal

abbrev pub decreases-pop_arguments : goal.decreases-pop_arguments
decreases-pop_arguments l = l.count
