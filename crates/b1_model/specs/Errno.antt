-- The Linux error numbers of the reasons.
use Rattle.std.specs.Prelude.{ℕ}
use Rattle.b1_model.specs.declared.answers.Reason.{Reason}
use Rattle.b1_model.specs.declared.answers.Reason.TheVariants.{Unknown, Again, Memory, Invalid, Full, Overflow, Size, Shutdown, Gone, Quota}

-- ENXIO, EAGAIN, ENOMEM, EINVAL, EXFULL, EOVERFLOW, EMSGSIZE, ESHUTDOWN, EHOSTUNREACH, EDQUOT
abbrev pub errno_of : Reason → ℕ
errno_of (Unknown number) = 6
errno_of (Again front) = 11
errno_of Memory = 12
errno_of Invalid = 22
errno_of (Full asked largest) = 54
errno_of (Overflow clock) = 75
errno_of (Size len) = 90
errno_of Shutdown = 108
errno_of (Gone owner serial) = 113
errno_of (Quota what own others limit asked) = 122
