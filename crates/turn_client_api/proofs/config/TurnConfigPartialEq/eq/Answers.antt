use Rattle.std.proofs.Common.{◌≡◌, rules}
use Rattle.turn_client_api.specs.SameConfig.{same_config}
use Rattle.turn_client_api.specs.SameConfigLaws.{test_says}
use Rattle.turn_client_api.proofs.config.TurnConfigPartialEq.eq.Goals as goal

pub returns-then-is_same_limits-clause-content : goal.returns-then-is_same_limits-clause-content
returns-then-is_same_limits-clause-content c =
    let settings : c.is_same_times.result ≡ same_config c.args.self.now c.args.other.now = search rules in
    test_says _ _ _ settings

pub returns-else-is_same_limits-clause-content : goal.returns-else-is_same_limits-clause-content
returns-else-is_same_limits-clause-content c =
    let settings : c.if-is_same_user.value ≡ same_config c.args.self.now c.args.other.now = search rules in
    test_says _ _ _ settings
