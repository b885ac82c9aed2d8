use Rattle.std.proofs.Common.{◌≡◌, ◌++◌, ℕ, List, OnOk, subst, append_assoc}
use Rattle.b1_wire.specs.Numbers.{u64_bytes}
use Rattle.b1_script.specs.Spelling.{start_spelling}
use Rattle.b1_script.proofs.writing.put_start.Goals as goal

pub returns : goal.returns
returns c =
    let written : c.put_u32.new.out.items ++ u64_bytes c.args.script.now.opening.first_clock ≡ c.args.out.now.items ++ start_spelling c.args.script.now = rw (c.in_ok-put_u32.ensures.ok, c.in_ok-put_name.ensures, c.version.ensures, c.len.ensures) (simp append_assoc) in
    subst (λ (x : List ℕ). OnOk c.put_u64.result (c.put_u64.new.out.items ≡ x)) written c.put_u64.ensures.ok
