pub mod MemberCheck
