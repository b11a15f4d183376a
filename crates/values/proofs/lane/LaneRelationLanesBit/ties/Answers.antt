use Rattle.values.proofs.Places.{lane_kept}
use Rattle.values.proofs.lane.LaneRelationLanesBit.ties.Goals as goal

pub returns-clause-is_kept : goal.returns-clause-is_kept
returns-clause-is_kept c = lane_kept c.args.self.now
