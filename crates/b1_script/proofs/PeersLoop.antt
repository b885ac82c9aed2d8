-- Reading peers one after the other, as a loop does.
use Rattle.std.proofs.Common.{◌≡◌, ℕ, suc, ◌-◌, ◌+◌, ◌≤◌, ◌<◌, List, [], ◌∷◌, ◌++◌, Ok, Err, refl, sym, ap, ◌∙◌, arith}
use Rattle.std.proofs.lemmas.List.{append-nil}
use Rattle.b1_errs.specs.declared.NotRead.{NotRead}
use Rattle.b1_errs.specs.declared.NotRead.TheVariants.{Bad, Memory}
use Rattle.b1_model.specs.declared.naming.PeerSpec.{PeerSpec}
use Rattle.b1_records.specs.Reading.{Read, Fails}
use Rattle.b1_records.proofs.Loop.{with_front, regroup}
use Rattle.b1_script.specs.Reading.{peer_at, peers_at}

pub peers_go_on : (limit : ℕ) (bytes : List ℕ) (before : ℕ) (front : List PeerSpec) (count i at : ℕ) (p : PeerSpec) (end : ℕ) (total : Read (List PeerSpec)) → i < count → peer_at limit bytes before at ≡ Ok (p, end)
    → with_front front (peers_at limit bytes before (count - i) at) ≡ total → with_front (front ++ p ∷ []) (peers_at limit bytes (before + p.pool) (count - (i + 1)) end) ≡ total
peers_go_on limit bytes before front count i at p end total lt h so_far =
    let k : count - i ≡ suc (count - (i + 1)) = omega arith in
    let one : with_front front (peers_at limit bytes before (count - i) at) ≡ with_front (front ++ p ∷ []) (peers_at limit bytes (before + p.pool) (count - (i + 1)) end) = rw (k, h) (regroup front p (peers_at limit bytes (before + p.pool) (count - (i + 1)) end)) in
    sym one ∙ so_far

pub peers_fail : (limit : ℕ) (bytes : List ℕ) (before : ℕ) (e : NotRead) (front : List PeerSpec) (count i at : ℕ) (total : Read (List PeerSpec)) → i < count → Fails e (peer_at limit bytes before at)
    → with_front front (peers_at limit bytes before (count - i) at) ≡ total → Fails e total
peers_fail limit bytes before Memory front count i at total lt h so_far = tt
peers_fail limit bytes before (Bad place cause) front count i at total lt h so_far =
    let k : count - i ≡ suc (count - (i + 1)) = omega arith in
    let one : with_front front (peers_at limit bytes before (count - i) at) ≡ Err (place, cause) = rw (k, h) refl in
    sym so_far ∙ one

pub peers_done : (limit : ℕ) (bytes : List ℕ) (before : ℕ) (front : List PeerSpec) (count i at : ℕ) (total : Read (List PeerSpec)) → count ≤ i → with_front front (peers_at limit bytes before (count - i) at) ≡ total → total ≡ Ok (front, at)
peers_done limit bytes before front count i at total le so_far =
    let k : count - i ≡ 0 = omega arith in
    let one : with_front front (peers_at limit bytes before (count - i) at) ≡ Ok (front, at) = rw k (ap (λ (ps : List PeerSpec). Ok (ps, at)) (append-nil front)) in
    sym so_far ∙ one
