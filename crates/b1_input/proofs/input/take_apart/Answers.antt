use Rattle.std.proofs.Common.{◌≡◌, ◌++◌, ◌+◌, List, ℕ, drop, ap, subst, sym, ◌∙◌, arith}
use Rattle.b1_input.specs.Held.{IsHeld}
use Rattle.b1_input.proofs.Holding.{Taken, all_bytes, held_then, joined, left_of}
use Rattle.b1_input.proofs.input.take_apart.Goals as goal

pub returns-clause-held : goal.returns-clause-held
returns-clause-held c =
    let old : List ℕ = c.args.script.now.bytes in
    let behind : List ℕ = c.args.behind.now.items in
    let piece : List ℕ = c.args.piece.now in
    let n : ℕ = c.in_ok-taken.taken in
    let k = c.in_ok-taken.ensures in
    let t : Taken old behind piece c.feed.new.self.bytes n = record { within = k.within; bytes = k.bytes; all = k.all; shorter = k.shorter } in
    let rest : c.extend_from_slice.new.self.items ≡ behind ++ drop n piece = c.in_ok-extend_from_slice.ensures.items ∙ ap (λ (x : List ℕ). behind ++ x) (left_of piece n) in
    let sum : c.args.count.now + n ≡ c.in-Some.sum = omega (arith, c.in-Some.ensures) in
    subst (λ (m : ℕ). IsHeld c.feed.new.self.bytes c.extend_from_slice.new.self.items m) sum
    (subst (λ (x : List ℕ). IsHeld c.feed.new.self.bytes x (c.args.count.now + n)) (sym rest) (held_then old behind piece c.feed.new.self.bytes n c.args.count.now t c.requires (all_bytes piece (λ i. omega (arith, c.type_inv.piece i)))))

pub returns-clause-bytes : goal.returns-clause-bytes
returns-clause-bytes c =
    let old : List ℕ = c.args.script.now.bytes in
    let behind : List ℕ = c.args.behind.now.items in
    let piece : List ℕ = c.args.piece.now in
    let n : ℕ = c.in_ok-taken.taken in
    let k = c.in_ok-taken.ensures in
    let t : Taken old behind piece c.feed.new.self.bytes n = record { within = k.within; bytes = k.bytes; all = k.all; shorter = k.shorter } in
    let rest : c.extend_from_slice.new.self.items ≡ behind ++ drop n piece = c.in_ok-extend_from_slice.ensures.items ∙ ap (λ (x : List ℕ). behind ++ x) (left_of piece n) in
    ap (λ (x : List ℕ). c.feed.new.self.bytes ++ x) rest ∙ joined old behind piece c.feed.new.self.bytes n c.args.count.now t c.requires
