-- What the code of a module names stands ahead of it.
use Rattle.std.proofs.Common.{◌<◌, sym, subst}
use Rattle.spirv_code.specs.Trees.{root_of}
use Rattle.frame_facts.specs.Inner.{Owns}
use Rattle.frame_facts.proofs.Wiring.{root_owned}
use Rattle.ruled_ids.proofs.Whole.{modules_define_once}
use Rattle.ruled_frame.specs.Laws.{ModulesStandAhead}
use Rattle.ruled_frame.proofs.Early.{key_ahead, slot_ahead}
use Rattle.ruled_frame.proofs.Marks.{marks}

pub modules_stand_ahead : ModulesStandAhead
modules_stand_ahead p list at v plan l wired serves =
    let owned : Owns (λ r. r < plan.regions) (root_of list) = subst (λ n. Owns (λ r. r < n) (root_of list)) (sym serves.regions) (root_owned p list wired) in
    record {
      once = modules_define_once p list at v plan wired serves.regions;
      marks = marks p list at v plan l owned;
      keys = key_ahead p list at v plan;
      closed = serves.closed;
      slots = λ slot id e. (let s = slot_ahead p list at v plan slot id e in (s.2.0, s.2.1, s.2.2, serves.variables s.0 slot s.1));
    }
