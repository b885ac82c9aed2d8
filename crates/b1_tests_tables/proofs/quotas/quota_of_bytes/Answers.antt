use Rattle.std.proofs.Common.{refl}
use Rattle.b1_tests_tables.proofs.quotas.quota_of_bytes.Goals as goal

pub charge-requires-3 : goal.charge-requires-3
charge-requires-3 g c = rw (c.charge-2.ensures.users, c.charge.ensures.users, c.in_ok-quota.ensures.users 5) refl

pub charge-requires-4 : goal.charge-requires-4
charge-requires-4 g c = rw (c.charge-3.ensures.users, c.charge-2.ensures.users, c.charge.ensures.users, c.in_ok-quota.ensures.users 7) refl

pub charge-requires-5 : goal.charge-requires-5
charge-requires-5 g c = rw (c.charge-4.ensures.users, c.charge-3.ensures.users, c.charge-2.ensures.users, c.charge.ensures.users, c.in_ok-quota.ensures.users 7) refl
