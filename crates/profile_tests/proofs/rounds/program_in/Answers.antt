use Rattle.profile_tests.proofs.rounds.program_in.Goals as goal

pub program_of_shader-requires : goal.program_of_shader-requires
program_of_shader-requires c = c.entry_is_read.ensures _ _ _ c.requires c.in-Ok.ensures.0 c.in-Ok.ensures.1
