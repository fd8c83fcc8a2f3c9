-- The measure of the cycle of calls {put_number} is the value: a number of more than one digit is the digits of its tenth and then its last digit.
use Rattle.decimals.proofs.+put_number.Given as goal

abbrev pub decreases-put_number : goal.decreases-put_number
decreases-put_number l = l.value
