-- What a whole run of a generated script counts: functions of its number alone.
use Rattle.std.specs.Prelude.{◌*◌, ℕ, length, sum_by}
use Rattle.b1_gen.specs.declared.numbers.TheConstants.{PHASES}
use Rattle.b1_gen.specs.Generated.{below, peer_count, partners, payload_len}

-- one SEND for each peer and phase
abbrev pub sends_due : ℕ → ℕ
sends_due number = peer_count number * PHASES

-- one message for each peer, phase and partner
abbrev pub messages_due : ℕ → ℕ
messages_due number = sum_by (λ p. sum_by (λ k. length (partners number k p)) (below PHASES)) (below (peer_count number))

-- the bytes of these messages
abbrev pub bytes_due : ℕ → ℕ
bytes_due number = sum_by (λ p. sum_by (λ k. length (partners number k p) * payload_len k) (below PHASES)) (below (peer_count number))
