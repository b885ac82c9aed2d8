-- The slice of every queued message begins with its payload.
use Rattle.std.proofs.Common.{◌≡◌, ℕ, List, [], ◌∷◌, ◌++◌, length, take, drop, refl}
use Rattle.b1_model.specs.declared.naming.Key.{Key}
use Rattle.b1_model.specs.declared.entries.Entry.{Entry}
use Rattle.b1_model.specs.declared.entries.Entry.TheVariants.{Message, OwnNotice, ForeignNotice, ReleaseNotice}
use Rattle.b1_peer_pool.specs.Content.{padded_len}
use Rattle.b1_peer.specs.Seen.{BeginsWithPayload, HasPayloads}
use Rattle.b1_peer.specs.State.{Fields, IsPeer, ContentOk, seen_of}
use Rattle.std.proofs.Common.{◌-◌, replicate}

-- what begins with two lists begins with the first
begins : (xs ys zs : List ℕ) → take (length (ys ++ zs)) xs ≡ ys ++ zs → take (length ys) xs ≡ ys
begins xs [] zs is = refl
begins [] (y ∷ ys) zs is = absurd (cc is)
begins (x ∷ xs) (y ∷ ys) zs is =
    let head : x ≡ y = cc in
    let tail : take (length (ys ++ zs)) xs ≡ ys ++ zs = cc in
    let behind = begins xs ys zs tail in
    cc

payload_begins : (bytes : List ℕ) (f : Key × Entry) → ContentOk bytes f → BeginsWithPayload bytes f
payload_begins bytes (k, Message origin user index serial offset len nodes slots handles payload) holds = begins (drop offset bytes) payload (replicate (padded_len (length payload) - length payload) 0) holds
payload_begins bytes (k, OwnNotice serial index) holds = tt
payload_begins bytes (k, ForeignNotice node index) holds = tt
payload_begins bytes (k, ReleaseNotice serial) holds = tt

pub payloads_begin : (p : Fields) → IsPeer p → HasPayloads (seen_of p)
payloads_begin p peer f has = payload_begins p.store.bytes f (peer.contents f has)
