use Rattle.std.proofs.Common.{subst, true, map, refl, sym, ap, ◌∙◌, List, ℕ}
use Rattle.vd_yard.specs.Out.{AtDisk, AtPasses}
use Rattle.vd_yard.specs.Kept.{kept_at}
use Rattle.vd_yard.specs.PathMap.{map_of}
use Rattle.vd_yard.specs.Ledger.{ledger_out}
use Rattle.vd_yard.specs.There.{there_back, there_kept, kept_stays}
use Rattle.vd_yard.proofs.Opened.{files_stay}
use Rattle.std.specs.Prelude.{IsSome}
use Rattle.vd_arm.specs.MemArm.{mem_pass_seen}
use Rattle.vd_yard.specs.Contents.{told_bytes}
use Rattle.vd_yard.specs.Held.{bytes_in}
use Rattle.vd_yard.specs.Kept.{Kept, keep_at}
use Rattle.vd_yard.specs.declared.data.Held.{Held}
use Rattle.vd_yard.specs.declared.data.Held.TheVariants.{Passes}
use Rattle.vd_yard.proofs.HeldBytes.{bytes_kept}
use Rattle.vd_yard.proofs.memory.MemYardYard.keep_passes.Goals as goal

pub invariant_of-self : goal.invariant_of-self
invariant_of-self c =
    let d = c.args.self.now in
    record {
      disks_there = there_back AtDisk AtPasses c.args.store.now.path (ledger_out d.ledger) (ledger_out c.close_passes.new.self) (map_of d.disks) c.close_passes.ensures.out d.disks_there;
      contents_there = there_kept AtPasses c.as_bytes.result.now (Passes c.args.passes) (ledger_out c.close_passes.new.self) (map_of d.contents) (map_of c.replace.new.self) c.replace.ensures (there_back AtPasses AtPasses c.args.store.now.path (ledger_out d.ledger) (ledger_out c.close_passes.new.self) (map_of d.contents) c.close_passes.ensures.out d.contents_there);
    }

pub returns-clause-back : goal.returns-clause-back
returns-clause-back c =
    let d = c.args.self.now in
    record {
      faults = refl;
      out = c.close_passes.ensures.out;
      tells = refl;
      willing = λ still. still;
      files = files_stay (map_of d.files) (map_of d.disks) (map_of d.disks) (map_of d.contents) (map_of c.replace.new.self) (λ q there. there) (λ q some. subst (λ (k : Kept Held). IsSome (kept_at k q)) (sym c.replace.ensures) (kept_stays (map_of d.contents) c.as_bytes.result.now (Passes c.args.passes) q some));
    }

pub returns-clause-contents : goal.returns-clause-contents
returns-clause-contents c =
    let d = c.args.self.now in
    ap bytes_in c.replace.ensures ∙ bytes_kept (map_of d.contents) c.as_bytes.result.now (Passes c.args.passes) (told_bytes (map mem_pass_seen c.args.passes.items)) refl
    ∙ ap (λ (q : List ℕ). keep_at true (bytes_in (map_of d.contents)) q (told_bytes (map mem_pass_seen c.args.passes.items))) c.as_bytes.ensures
