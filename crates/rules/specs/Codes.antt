-- The numbers of the error codes, and the code that checks gave. No public statement rests on it.
use Rattle.std.specs.Prelude.{ℕ, Result, Ok, Err}
use Rattle.rules.specs.declared.codes.ErrorCode.{ErrorCode}
use Rattle.rules.specs.declared.codes.ErrorCode.TheVariants.{BadRequest, Unauthorized, Forbidden, UnknownAttribute, AllocationMismatch, AddressFamilyNotSupported, WrongCredentials, UnsupportedTransportProtocol, PeerAddressFamilyMismatch, AllocationQuotaReached, InsufficientCapacity}

-- RFC 8489, section 14.8, and RFC 8656, section 18.13; document 01 has the numbers alone
abbrev pub number : ErrorCode → ℕ
number BadRequest = 400
number Unauthorized = 401
number Forbidden = 403
number UnknownAttribute = 420
number AllocationMismatch = 437
number AddressFamilyNotSupported = 440
number WrongCredentials = 441
number UnsupportedTransportProtocol = 442
number PeerAddressFamilyMismatch = 443
number AllocationQuotaReached = 486
number InsufficientCapacity = 508

-- the code that checks gave, or what later ones give
abbrev pub code_or : {A : Type 0} → Result A ErrorCode → ℕ → ℕ
code_or (Ok passed) rest = rest
code_or (Err code) rest = number code

-- 0 is none
abbrev pub code_of : {A : Type 0} → Result A ErrorCode → ℕ
code_of result = code_or result 0
