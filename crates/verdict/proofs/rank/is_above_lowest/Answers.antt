use Rattle.model.proofs.RankLaws.{by_lowest}
use Rattle.verdict.proofs.rank.is_above_lowest.Goals as goal

pub returns : goal.returns
returns c = λ n e. by_lowest c.args.own.now _ c.args.rank.0 n c.highest.ensures e
