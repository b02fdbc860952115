use Rattle.std.proofs.Common.{◌≡◌, ◌∙◌, ap, List, ℕ, true, refl, is_some}
use Rattle.vd_outside.specs.Streams.{is_empty}
use Rattle.vd_yard.specs.ArmPlan.{arms_sure, listed}
use Rattle.vd_yard.specs.Held.{bytes_in}
use Rattle.vd_yard.specs.Kept.{keep_at}
use Rattle.vd_yard.specs.Ledger.{ledger_out}
use Rattle.vd_yard.specs.MemYard.{files_in}
use Rattle.vd_yard.specs.Out.{AtPasses}
use Rattle.vd_yard.specs.PathMap.{map_of}
use Rattle.vd_yard.specs.Yard.{is_there_at}
use Rattle.vd_yard.specs.declared.data.Held.TheVariants.{Flat}
use Rattle.vd_yard.proofs.HeldBytes.{bytes_kept}
use Rattle.vd_yard.proofs.Opened.{all_stay, put_stays, put_here, put_other, put_or_not, on_ok, on_err}
use Rattle.vd_yard.proofs.memory.MemYard.put_data.Goals as goal

pub invariant_of-self-2 : goal.invariant_of-self-2
invariant_of-self-2 c =
    let d = c.args.self.now in
    record {
      disks_there = d.disks_there;
      contents_there = put_or_not AtPasses (ledger_out d.ledger) c.args.path (Flat c.args.bytes) (map_of d.contents) (map_of c.put-3.new.self) c.put-3.result c.put-3.ensures.ok
          (on_err _ _ c.put-3.result c.put-3.ensures.err (λ same. ap (λ entries. map_of entries) same)) d.contents_there;
    }

pub returns-clause-puts : goal.returns-clause-puts
returns-clause-puts c =
    let d = c.args.self.now in
    let path = c.args.path in
    let plan = c.new.result in
    let plans = map_of d.arm_plans in
    let plans' = map_of c.put-2.new.self in
    let held = map_of d.contents in
    let held' = map_of c.put-3.new.self in
    let same : c.in_ok-plan_path.plan_path ≡ path = cc (c.in_ok-plan_path.ensures, c.as_str.ensures) in
    let put : plans' ≡ keep_at true plans path plan = c.in_ok-put-2.ensures.ok ∙ ap (λ (q : List ℕ). keep_at true plans q plan) same in
    on_ok _ _ c.put-3.result c.put-3.ensures.ok (λ e. record {
      contents = ap bytes_in e ∙ bytes_kept held path (Flat c.args.bytes) c.args.bytes.items refl;
      there = is_there_at (files_in (map_of d.files) (map_of d.disks) held') AtPasses path ∙ ap is_some (put_here path (Flat c.args.bytes) held held' e);
      sure_here = ap arms_sure (put_here path plan plans plans' put) ∙ ap is_empty c.new.ensures;
      others_sure = λ q apart. ap arms_sure (put_other path plan plans plans' put q apart);
      sources_sure = λ q. refl;
      faults = refl;
      out = refl;
      counts = refl;
      bytes = refl;
      keeps_disks = refl;
      keeps_contents = refl;
      willing = refl;
      files = all_stay (map_of d.files) (map_of d.files) (map_of d.disks) (map_of d.disks) held held' (λ q there. there) (λ q there. there) (put_stays path (Flat c.args.bytes) held held' e);
      disks = refl;
    })

pub returns-clause-calls : goal.returns-clause-calls
returns-clause-calls c =
    let path = c.args.path in
    let plan = c.new.result in
    let plans = map_of c.args.self.now.arm_plans in
    let same : c.in_ok-plan_path.plan_path ≡ path = cc (c.in_ok-plan_path.ensures, c.as_str.ensures) in
    let put : map_of c.put-2.new.self ≡ keep_at true plans path plan = c.in_ok-put-2.ensures.ok ∙ ap (λ (q : List ℕ). keep_at true plans q plan) same in
    on_ok _ _ c.put-3.result c.put-3.ensures.ok (λ e. ap listed (put_here path plan plans (map_of c.put-2.new.self) put) ∙ c.new.ensures)

pub returns-clause-numbers : goal.returns-clause-numbers
returns-clause-numbers c =
    let path = c.args.path in
    let opened = map_of c.args.self.now.arms_opened in
    let same : c.in_ok-count_path.count_path ≡ path = cc (c.in_ok-count_path.ensures, c.as_str-2.ensures) in
    let put : map_of c.put.new.self ≡ keep_at true opened path 0 = c.in_ok-put.ensures.ok ∙ ap (λ (q : List ℕ). keep_at true opened q 0) same in
    on_ok _ _ c.put-3.result c.put-3.ensures.ok (λ e. put_here path 0 opened (map_of c.put.new.self) put)
