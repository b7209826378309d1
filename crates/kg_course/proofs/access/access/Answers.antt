use Rattle.std.proofs.lemmas.Result.{IfOk-weaker}
use Rattle.kg_row_types.specs.declared.config.Config.TheVariants as config
use Rattle.kg_auth.specs.AclRule.{acl}
use Rattle.kg_auth.specs.KeyAuth.{key_auth}
use Rattle.kg_basic.specs.BasicAuth.{basic_auth}
use Rattle.kg_course.proofs.AskingLemmas.{of_config, rule_runs}
use Rattle.kg_course.proofs.access.access.Goals as goal

pub returns-in-KeyAuth : goal.returns-in-KeyAuth
returns-in-KeyAuth c =
    IfOk-weaker c.run_key_auth.result _ _
    (λ lacking runs. of_config c.args.row.now (config.KeyAuth c.in-KeyAuth.config) c.args.moment c.args.given.now c.args.verdicts.now c.args.walk.now _ lacking c.in-KeyAuth.is
    (rule_runs (key_auth c.in-KeyAuth.config) c.args.given.now c.args.verdicts.now c.args.walk.now lacking c.run_key_auth.new.ctx runs))
    c.run_key_auth.ensures

pub returns-in-BasicAuth : goal.returns-in-BasicAuth
returns-in-BasicAuth c =
    IfOk-weaker c.run_basic_auth.result _ _
    (λ lacking runs. of_config c.args.row.now (config.BasicAuth c.in-BasicAuth.config) c.args.moment c.args.given.now c.args.verdicts.now c.args.walk.now _ lacking c.in-BasicAuth.is
    (rule_runs (basic_auth c.in-BasicAuth.config) c.args.given.now c.args.verdicts.now c.args.walk.now lacking c.run_basic_auth.new.ctx runs))
    c.run_basic_auth.ensures

pub returns-in-Acl : goal.returns-in-Acl
returns-in-Acl c =
    IfOk-weaker c.run_acl.result _ _
    (λ lacking runs. of_config c.args.row.now (config.Acl c.in-Acl.config) c.args.moment c.args.given.now c.args.verdicts.now c.args.walk.now _ lacking c.in-Acl.is
    (rule_runs (acl c.in-Acl.config) c.args.given.now c.args.verdicts.now c.args.walk.now lacking c.run_acl.new.ctx runs))
    c.run_acl.ensures

pub returns-in-RateLimiting : goal.returns-in-RateLimiting
returns-in-RateLimiting c =
    IfOk-weaker c.run_rate_limiting.result _ _
    (λ lacking runs. of_config c.args.row.now (config.RateLimiting c.in-RateLimiting.config) c.args.moment c.args.given.now c.args.verdicts.now c.args.walk.now c.run_rate_limiting.new.walk lacking
    c.in-RateLimiting.is (runs c.args.given.now))
    c.run_rate_limiting.ensures
