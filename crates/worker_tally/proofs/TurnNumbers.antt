-- How large a turn's numbers are, and that a turn without a call has none.
use Rattle.std.proofs.Common.{arith, ℕ, ◌≡◌, ◌+◌, ◌*◌, ◌≤◌, Bool, true, false, cond, nat_lt, refl, sym}
use Rattle.std.proofs.Math.Nat.{mul-le-mul_left}
use Rattle.worker_tally.specs.Dones.{bytes_of, calls_of, ended_put, fault, fault_put, faults_of, good, good_put, has_called, prereads_of, reads_of, rereads_of, writes_of}
use Rattle.worker_tally.specs.declared.done.Look.{Look}
use Rattle.worker_tally.specs.declared.done.Look.TheVariants as look
use Rattle.worker_tally.specs.declared.done.Put.{Put}
use Rattle.worker_tally.specs.declared.done.Put.TheVariants as put
use Rattle.worker_tally.specs.declared.done.Done.{Done}

good_most : (seen : Look) → good seen ≤ 1
good_most look.Skipped = omega arith
good_most look.Fault = omega arith
good_most (look.Read corrupt) = omega arith

fault_most : (seen : Look) → fault seen ≤ 1
fault_most look.Skipped = omega arith
fault_most look.Fault = omega arith
fault_most (look.Read corrupt) = omega arith

good_put_most : (how : Put) → good_put how ≤ 1
good_put_most put.Skipped = omega arith
good_put_most put.Refused = omega arith
good_put_most put.Fault = omega arith
good_put_most (put.Unended appended) = omega arith
good_put_most put.Ended = omega arith

fault_put_most : (how : Put) → fault_put how ≤ 1
fault_put_most put.Skipped = omega arith
fault_put_most put.Refused = omega arith
fault_put_most put.Fault = omega arith
fault_put_most (put.Unended appended) = omega arith
fault_put_most put.Ended = omega arith

ended_most : (how : Put) → ended_put how ≤ good_put how
ended_most put.Skipped = omega arith
ended_most put.Refused = omega arith
ended_most put.Fault = omega arith
ended_most (put.Unended true) = omega arith
ended_most (put.Unended false) = omega arith
ended_most put.Ended = omega arith

-- either choice is at most what both are
then_most : (test : Bool) (n m : ℕ) → n ≤ m → cond test n 0 ≤ m
then_most true n m most = most
then_most false n m most = omega arith

else_most : (test : Bool) (n m : ℕ) → n ≤ m → cond test 0 n ≤ m
else_most true n m most = omega arith
else_most false n m most = most

times_most : (many n : ℕ) → n ≤ 1 → many * n ≤ many
times_most many n most = omega (arith, mul-le-mul_left many most)

pub reads_most : (done : Done) → reads_of done ≤ done.many
reads_most done = then_most done.read _ _ (times_most done.many (good done.first) (good_most done.first))

pub prereads_most : (done : Done) → prereads_of done ≤ done.many
prereads_most done = else_most done.read _ _ (times_most done.many (good done.first) (good_most done.first))

pub rereads_most : (done : Done) → rereads_of done ≤ done.many
rereads_most done = times_most done.many (good done.again) (good_most done.again)

pub writes_most : (done : Done) → writes_of done ≤ done.many
writes_most done = times_most done.many (ended_put done.put) (omega (arith, ended_most done.put, good_put_most done.put))

pub faults_most : (done : Done) → faults_of done ≤ 3
faults_most done = omega (arith, fault_most done.first, fault_put_most done.put, fault_most done.again)

-- three transfers of at most 64 blocks of at most 1 MiB
pub bytes_most : (size : ℕ) (done : Done) → size ≤ 1048576 → done.many ≤ 64 → bytes_of size done ≤ 201326592
bytes_most size done small few =
    let read : done.many * (good done.first + good done.again) ≤ done.many * 2 =
    mul-le-mul_left done.many (omega (arith, good_most done.first, good_most done.again)) in
    let written : done.many * good_put done.put ≤ done.many = times_most done.many (good_put done.put) (good_put_most done.put) in
    let blocks : done.many * (good done.first + good done.again) + done.many * good_put done.put ≤ 192 = omega arith in
    let bytes : size * (done.many * (good done.first + good done.again) + done.many * good_put done.put) ≤ size * 192 = mul-le-mul_left size blocks in
    omega arith

-- without a call there is none of these
no_calls : (calls : ℕ) → nat_lt 0 calls ≡ false → calls ≡ 0
no_calls calls none = grind (arith, none)

zero_times : (many n : ℕ) → n ≡ 0 → many * n ≡ 0
zero_times many n none = rw none (omega arith)

-- the choice between a number and none, where it is none already
cond_same : (test : Bool) (n : ℕ) → (test ≡ false → n ≡ 0) → cond test n 0 ≡ n
cond_same true n none = refl
cond_same false n none = sym (none refl)

then_none : (test : Bool) (n : ℕ) → n ≡ 0 → cond test n 0 ≡ 0
then_none true n none = none
then_none false n none = refl

pub reads_called : (done : Done) → cond (has_called done) (reads_of done) 0 ≡ reads_of done
reads_called done = cond_same (has_called done) (reads_of done) (λ quiet.
    let none : calls_of done ≡ 0 = no_calls (calls_of done) quiet in
    then_none done.read (done.many * good done.first) (zero_times done.many (good done.first) (omega arith)))

pub writes_called : (done : Done) → cond (has_called done) (writes_of done) 0 ≡ writes_of done
writes_called done = cond_same (has_called done) (writes_of done) (λ quiet.
    let none : calls_of done ≡ 0 = no_calls (calls_of done) quiet in
    zero_times done.many (ended_put done.put) (omega (arith, ended_most done.put)))

pub bytes_called : (size : ℕ) (done : Done) → cond (has_called done) (bytes_of size done) 0 ≡ bytes_of size done
bytes_called size done = cond_same (has_called done) (bytes_of size done) (λ quiet.
    let none : calls_of done ≡ 0 = no_calls (calls_of done) quiet in
    let read : done.many * (good done.first + good done.again) ≡ 0 = zero_times done.many (good done.first + good done.again) (omega arith) in
    let written : done.many * good_put done.put ≡ 0 = zero_times done.many (good_put done.put) (omega arith) in
    zero_times size (done.many * (good done.first + good done.again) + done.many * good_put done.put) (omega arith))
