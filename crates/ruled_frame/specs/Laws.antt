-- What the code of a module names stands ahead of it.
use Rattle.std.specs.Prelude.{List, length}
use Rattle.dxil_form.specs.declared.program.Program.{Program}
use Rattle.dxil_form.specs.declared.region.Region.{Region}
use Rattle.dxil_form.specs.Wired.{Wired}
use Rattle.spv_form.specs.declared.module.Version.{Version}
use Rattle.dxil_meaning.specs.Source.{Launch}
use Rattle.spirv_meaning.specs.Bindings.{Bindings}
use Rattle.spirv_code.specs.Plans.{Plan}
use Rattle.spirv_code.specs.Frame.{frame}
use Rattle.frame_facts.specs.Serves.{Serves}
use Rattle.frame_facts.specs.Facts.{setting_of}
use Rattle.ruled_lines.specs.Kept.{StandsAhead}

-- In the module of each program, with regions that are wired, by any plan that serves them, with any bindings and at each version: what the code names is declared in the frame, which ends where the code of the regions begins.
abbrev pub ModulesStandAhead : Type 0
ModulesStandAhead =
    (p : Program) (list : List Region) (at : Bindings) (v : Version) (plan : Plan) (l : Launch) → Wired p list → Serves p list plan → StandsAhead (setting_of p list at v plan l) (length (frame p list at v plan))
