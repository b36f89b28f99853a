use Rattle.std.proofs.Common.{◌+◌, ◌*◌, ◌<◌, ◌≤◌, ◌^◌, length, arith, subst, sym, ap}
use Rattle.phi_demotion.specs.Reads.{is_phi}
use Rattle.phi_demotion.proofs.Counts.{bounds, few_first, few_all, few_crossing}
use Rattle.phi_demotion.proofs.Whole.{made_slots}
use Rattle.phi_demotion.proofs.slots.demote.Goals as goal

pub phi_slots-requires : goal.phi_slots-requires
phi_slots-requires c =
    let b = bounds c.args.p.now c.requires in
    let few = b.phis in
    omega arith

pub overflow_cast-first : goal.overflow_cast-first
overflow_cast-first c =
    let few = few_first c.args.p.now c.requires c.in_ok-phis.phis c.in_ok-phis.ensures in
    let len = c.len.ensures in
    omega arith

pub overflow_mul-first : goal.overflow_mul-first
overflow_mul-first c =
    let few = few_first c.args.p.now c.requires c.in_ok-phis.phis c.in_ok-phis.ensures in
    let len = c.len.ensures in
    omega arith

pub crossing_slots-requires : goal.crossing_slots-requires
crossing_slots-requires c =
    let few = few_all c.args.p.now c.requires c.in_ok-phis.phis c.in_ok-reads.reads c.in_ok-phis.ensures c.in_ok-reads.ensures in
    let len = c.len.ensures in
    omega arith

pub overflow_cast-count : goal.overflow_cast-count
overflow_cast-count c =
    let few = few_all c.args.p.now c.requires c.in_ok-phis.phis c.in_ok-reads.reads c.in_ok-phis.ensures c.in_ok-reads.ensures in
    let len = c.len.ensures in
    let few' : 2 * c.len.result + length c.in_ok-reads.reads < 2 ^ 32 = omega arith in
    let fits = few_crossing (is_phi c.in_ok-phis.phis) (2 * c.len.result) c.in_ok-reads.reads c.in_ok-crossing.crossing c.in_ok-crossing.ensures few' in
    let len2 = c.len-2.ensures in
    omega arith

pub overflow_add-count : goal.overflow_add-count
overflow_add-count c =
    let few = few_all c.args.p.now c.requires c.in_ok-phis.phis c.in_ok-reads.reads c.in_ok-phis.ensures c.in_ok-reads.ensures in
    let len = c.len.ensures in
    let few' : 2 * c.len.result + length c.in_ok-reads.reads < 2 ^ 32 = omega arith in
    let fits = few_crossing (is_phi c.in_ok-phis.phis) (2 * c.len.result) c.in_ok-reads.reads c.in_ok-crossing.crossing c.in_ok-crossing.ensures few' in
    let len2 = c.len-2.ensures in
    omega arith

pub returns : goal.returns
returns c =
    made_slots c.args.p.now c.requires c.in_ok-phis.phis c.in_ok-crossing.crossing c.in_ok-reads.reads c.len.result c.len-2.result c.in_ok-phis.ensures c.in_ok-reads.ensures c.len.ensures c.len-2.ensures c.in_ok-crossing.ensures
