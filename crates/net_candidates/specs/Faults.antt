-- Why candidates are not listed if kernels are not.
-- Source: the project's own.
use Rattle.alg_kernel.specs.declared.search.KernelFault.{KernelFault}
use Rattle.alg_kernel.specs.declared.search.KernelFault.TheVariants.{KernelLimit, Memory as KernelMemory}
use Rattle.net_candidates.specs.declared.fault.ListFault.{ListFault}
use Rattle.net_candidates.specs.declared.fault.ListFault.TheVariants.{ManyKernels, Memory}

abbrev pub fault_of : KernelFault → ListFault
fault_of KernelLimit = ManyKernels
fault_of KernelMemory = Memory
